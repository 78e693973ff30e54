-- Entries by name, in order: a value that is written is written at the one entry of its name.
use Rattle.std.specs.List.Sorted.{IsStrictlySortedBy}
use Rattle.std.specs.Cmp.{eq_by_cmp_equiv}
use Rattle.std.specs.Map.{keys_of, lookup, set_value}
use Rattle.std.specs.BTreeMap.{is_at}
use Rattle.std.specs.Ordering.{nat_cmp}
use Rattle.std.specs.Cmp.Lexicographic.{slice_cmp}
use Rattle.std.specs.declared.cmp.Ordering.{Ordering}
use Rattle.std.specs.declared.cmp.Ordering.TheVariants.{Less, Equal, Greater}
use Rattle.std.specs.Ordering.{is_eq}
use Rattle.std.proofs.Common.{◌≡◌, ℕ, Bool, true, false, cond, List, [], ◌∷◌, map, Option, None, Some, option_map, refl, sym, ap, ◌∙◌}
use Rattle.std.proofs.lemmas.Map.{NonePasses}
use Rattle.std.proofs.lemmas.Map.Entries.{none_past_head}
use Rattle.std.proofs.lemmas.Map.Keys.{IsDistinct-from_sorted, sorted_tail}
use Rattle.std.proofs.lemmas.Map.Lookups.{exact_bytes}
use Rattle.std.proofs.lemmas.Cmp.{nat_list_cmp_total}

abbrev pub at : List ℕ → List ℕ → Bool
at name = is_at (slice_cmp nat_cmp name)

abbrev pub AreSorted : {X : Type 0} → List (List ℕ × X) → Type 0
AreSorted es = IsStrictlySortedBy (slice_cmp nat_cmp) (keys_of es)

equal_is : (r : Ordering) → is_eq r ≡ true → r ≡ Equal
equal_is Less e = absurd (cc)
equal_is Equal e = refl
equal_is Greater e = absurd (cc)

-- the name of an entry that is found is the name that was looked for
pub at_is : (x y : List ℕ) → at x y ≡ true → x ≡ y
at_is x y h = exact_bytes x y (equal_is (slice_cmp nat_cmp x y) h)

module _ {X : Type 0} where
  -- each value changed, by its name
  abbrev pub each : (List ℕ → X → X) → List (List ℕ × X) → List (List ℕ × X)
  each f es = map (λ e. (e.0, f e.0 e.1)) es

  pub same_keys : (f : List ℕ → X → X) (es : List (List ℕ × X)) → keys_of (each f es) ≡ keys_of es
  same_keys f [] = refl
  same_keys f (e ∷ es) = ap (λ (names : List (List ℕ)). e.0 ∷ names) (same_keys f es)

  found_if : (f : List ℕ → X → X) (name : List ℕ) (e : List ℕ × X) (b : Bool) (o p : Option X) → at name e.0 ≡ b → p ≡ option_map (f name) o
      → cond b (Some (f e.0 e.1)) p ≡ option_map (f name) (cond b (Some e.1) o)
  found_if f name e true o p is h = ap (λ (n : List ℕ). Some (f n e.1)) (sym (at_is name e.0 is))
  found_if f name e false o p is h = h

  -- what is found of a name is changed by that name
  pub found : (f : List ℕ → X → X) (name : List ℕ) (es : List (List ℕ × X)) → lookup (at name) (each f es) ≡ option_map (f name) (lookup (at name) es)
  found f name [] = refl
  found f name (e ∷ es) =
      found_if f name e (at name e.0) (lookup (at name) es) (lookup (at name) (each f es)) refl (found f name es)

  -- the value changed, where the test passes
  abbrev pub where_at : (List ℕ → Bool) → (X → X) → List ℕ → X → X
  where_at test g name x = cond (test name) (g x) x

  -- the entries with the first value that passes changed, where there is one
  abbrev pub written_if : (List ℕ → Bool) → (X → X) → List (List ℕ × X) → Option X → List (List ℕ × X)
  written_if test g es None = es
  written_if test g es (Some x) = set_value test es (g x)

  head_same : (g : X → X) (e : List ℕ × X) (b : Bool) (es : List (List ℕ × X)) → b ≡ false → (e ∷ es) ≡ (e.0, cond b (g e.1) e.1) ∷ es
  head_same g e true es h = absurd (cc)
  head_same g e false es h = refl

  none_written : (test : List ℕ → Bool) (g : X → X) (es : List (List ℕ × X)) → NonePasses test es → es ≡ each (where_at test g) es
  none_written test g [] none = refl
  none_written test g (e ∷ es) none =
      head_same g e (test e.0) es none.0 ∙ ap (λ (rest : List (List ℕ × X)). (e.0, cond (test e.0) (g e.1) e.1) ∷ rest) (none_written test g es none.1)

  later_if : (test : List ℕ → Bool) (g : X → X) (e : List ℕ × X) (es : List (List ℕ × X)) (o : Option X) → test e.0 ≡ false
      → written_if test g (e ∷ es) o ≡ e ∷ written_if test g es o
  later_if test g e es None h = refl
  later_if test g e es (Some x) h = rw h refl

  written_by : (test : List ℕ → Bool) (g : X → X) (e : List ℕ × X) (es : List (List ℕ × X)) (b : Bool) → test e.0 ≡ b
      → (b ≡ true → NonePasses test es) → written_if test g es (lookup test es) ≡ each (where_at test g) es
      → written_if test g (e ∷ es) (cond b (Some e.1) (lookup test es)) ≡ (e.0, cond b (g e.1) e.1) ∷ each (where_at test g) es
  written_by test g e es true is none h =
      rw is (ap (λ (rest : List (List ℕ × X)). (e.0, g e.1) ∷ rest) (none_written test g es (none refl)))
  written_by test g e es false is none h =
      later_if test g e es (lookup test es) is ∙ ap (λ (rest : List (List ℕ × X)). e ∷ rest) h

  -- a value that is written back changed, where its name is found, is changed at its name
  pub written : (name : List ℕ) (g : X → X) (es : List (List ℕ × X)) → AreSorted es
      → written_if (at name) g es (lookup (at name) es) ≡ each (where_at (at name) g) es
  written name g [] sorted = refl
  written name g (e ∷ es) sorted =
      written_by (at name) g e es (at name e.0) refl
      (none_past_head (eq_by_cmp_equiv nat_list_cmp_total) name e es (IsDistinct-from_sorted (slice_cmp nat_cmp) (keys_of (e ∷ es)) sorted))
      (written name g es (sorted_tail (slice_cmp nat_cmp) e.0 (keys_of es) sorted))
