-- Substrings, elements and counts.
use Rattle.std.proofs.Common.{◌≡◌, ℕ, zero, suc, ◌+◌, ◌≤◌, List, [], ◌∷◌, length, Bool, true, false, ◌||◌, Option, Some, None, take, drop, refl, sym, ap, ◌∙◌, arith}
use Rattle.std.proofs.Common.{◌++◌, ◌-◌, ◌==◌, is_some, ⊎_elim, length-append, length-drop}
use Rattle.std.proofs.lemmas.Bool.{or_left, or_right, or_cases}
use Rattle.std.proofs.lemmas.Bool.Decides.{Decides-eqb}
use Rattle.std.proofs.lemmas.Map.Text.{is_eq-slice_cmp}
use Rattle.std.proofs.lemmas.Slice.Eq.{starts_is}
use Rattle.std.proofs.Math.Seq.{take-append_seam}
use Rattle.std.specs.Cmp.Lexicographic.{slice_cmp}
use Rattle.std.specs.List.{starts_with}
use Rattle.std.specs.Ordering.{nat_cmp}
use Rattle.std.specs.Prelude.{bytes_eq}
use Rattle.ordered_set.specs.Sets.{has}
use Rattle.std.specs.List.{list_any}
use Rattle.memchr.specs.Find.{OccursAt, FindsNeedle}
use Rattle.memchr.proofs.lemmas.MatchLemmas.{OccursAt-split, OccursAt-from_part}
use Rattle.attr_value.specs.Equality.{same}
use Rattle.attr_value.specs.Sizes.{count}
use Rattle.attr_value.specs.View.{tree_of, trees_of}
use Rattle.attr_value.specs.declared.value.Value.{Value}
use Rattle.condition_eval.specs.Truth.{has_element, is_part}

pub has_element_any : (v : Value) (vs : List Value) → list_any (λ u. same (tree_of u) (tree_of v)) vs ≡ has_element (tree_of v) (trees_of vs)
has_element_any v [] = refl
has_element_any v (u ∷ vs) = ap (λ b. same (tree_of u) (tree_of v) || b) (has_element_any v vs)

-- a set has an element where one of its elements is equal
pub has_bytes : (x : List ℕ) (ys : List (List ℕ)) → has (slice_cmp nat_cmp) x ys ≡ list_any (λ y. bytes_eq y x) ys
has_bytes x [] = refl
has_bytes x (y ∷ ys) = ap (λ b. b || has (slice_cmp nat_cmp) x ys) (is_eq-slice_cmp y x) ∙ ap (λ b. bytes_eq y x || b) (has_bytes x ys)

pub count_of : (vs : List Value) → count (trees_of vs) ≡ length vs
count_of [] = refl
count_of (v ∷ vs) = omega (arith, count_of vs)

-- ---- substrings

starts_at : (hay needle : List ℕ) → (starts_with ◌==◌ hay needle ≡ true → hay ≡ needle ++ drop (length needle) hay) × ((rest : List ℕ) → hay ≡ needle ++ rest → starts_with ◌==◌ hay needle ≡ true)
starts_at hay needle = starts_is Decides-eqb hay needle (starts_with ◌==◌ hay needle) refl

part_from_start : (hay needle rest : List ℕ) → hay ≡ needle ++ rest → is_part needle hay ≡ true
part_from_start [] needle rest e = (starts_at [] needle).1 rest e
part_from_start (b ∷ hay) needle rest e = or_left _ _ ((starts_at (b ∷ hay) needle).1 rest e)

part_from : (k : ℕ) (hay needle rest : List ℕ) → drop k hay ≡ needle ++ rest → is_part needle hay ≡ true
part_from zero hay needle rest e = part_from_start hay needle rest e
part_from (suc k) [] needle rest e = part_from_start [] needle rest e
part_from (suc k) (b ∷ hay) needle rest e = or_right _ _ (part_from k hay needle rest e)

abbrev Stands : List ℕ → List ℕ → Type 0
Stands hay needle = (k : ℕ) × (k ≤ length hay) × (rest : List ℕ) × (drop k hay ≡ needle ++ rest)

part_stands : (hay needle : List ℕ) → is_part needle hay ≡ true → Stands hay needle
part_stands [] needle e = (0, omega arith, drop (length needle) [], (starts_at [] needle).0 e)
part_stands (b ∷ hay) needle e = ⊎_elim
    (λ first. (0, omega arith, drop (length needle) (b ∷ hay), (starts_at (b ∷ hay) needle).0 first))
    (λ later. let s = part_stands hay needle later in (suc s.0, omega (arith, s.1), s.2, s.3))
    (or_cases _ _ e)

occurs : (hay needle : List ℕ) (s : Stands hay needle) → OccursAt hay needle s.0
occurs hay needle s =
    let long : length (drop s.0 hay) ≡ length needle + length s.2 = ap (length {A = ℕ}) s.3 ∙ length-append needle s.2 in
    let dropped : length (drop s.0 hay) ≡ length hay - s.0 = length-drop s.0 hay in
    OccursAt-from_part hay needle s.0 (omega (arith, long, dropped, s.1)) (ap (take (length needle)) s.3 ∙ take-append_seam needle s.2)

not_true : (b : Bool) → (b ≡ true → ⊥) → false ≡ b
not_true true never = absurd (never refl)
not_true false never = refl

-- a search finds a place exactly where the bytes stand in the others
pub part_found : (hay needle : List ℕ) (r : Option ℕ) → FindsNeedle hay needle 0 r → is_some r ≡ is_part needle hay
part_found hay needle None h = not_true (is_part needle hay) (λ e. let s = part_stands hay needle e in h s.0 (omega arith) (omega (arith, s.1)) (occurs hay needle s))
part_found hay needle (Some k) h = sym (part_from k hay needle _ (OccursAt-split hay needle k h.1))
