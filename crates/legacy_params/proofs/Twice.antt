-- Names that stand twice, and the paths to them.
use Rattle.std.proofs.Common.{◌≡◌, ◌↔◌, ℕ, ◌<◌, zero, suc, List, [], ◌∷◌, map, slice_get, Bool, true, false, ◌||◌, not, cond, Some, refl, sym, ap, ◌∙◌, subst, arith, IsTrue}
use Rattle.std.proofs.Math.Logic.{inl, inr}
use Rattle.std.specs.Borrow.{Bor}
use Rattle.std.specs.Cmp.Lexicographic.{slice_cmp}
use Rattle.std.specs.List.{list_any}
use Rattle.std.specs.Ordering.{nat_cmp, is_eq}
use Rattle.std.proofs.lemmas.Map.Text.{is_eq-slice_cmp}
use Rattle.std.proofs.lemmas.Slice.Eq.{bytes_eq-Decides}
use Rattle.base_types.specs.declared.path.DocPath.{DocPath}
use Rattle.expr_parse.specs.Overlaps.{Overlap, HaveOverlap}
use Rattle.legacy_params.specs.Trees.{path_to}

abbrev pub is_same : List ℕ → List ℕ → Bool
is_same name other = is_eq (slice_cmp nat_cmp name other)

abbrev pub has : List (List ℕ) → List ℕ → Bool
has names name = list_any (is_same name) names

-- whether a name stands twice
abbrev pub repeats : List (List ℕ) → Bool
repeats [] = false
repeats (name ∷ names) = has names name || repeats names

-- ---- the set of those before

abbrev pub holds : List (Bor (List ℕ)) → List ℕ → Bool
holds seen name = list_any (λ x. is_same name x.now) seen

or_within : (a s r : Bool) → ((a || s) || r) ≡ (s || (a || r))
or_within true true r = refl
or_within true false r = refl
or_within false s r = refl

mixed : (a b c d : Bool) → ((a || b) || (c || d)) ≡ ((a || c) || (b || d))
mixed true b c d = refl
mixed false true true d = refl
mixed false true false d = refl
mixed false false c d = refl

any_either : (p q new : List ℕ → Bool) (ns : List (List ℕ)) → ((n : List ℕ) → new n ≡ (p n || q n)) → list_any new ns ≡ (list_any p ns || list_any q ns)
any_either p q new [] each = refl
any_either p q new (n ∷ ns) each = (λ i. each n i || any_either p q new ns each i) ∙ mixed (p n) (q n) (list_any p ns) (list_any q ns)

-- one name more is seen, which was not before
pub one_more : (seen new : List ℕ → Bool) (name : List ℕ) (rest others : List (List ℕ)) → rest ≡ name ∷ others → seen name ≡ false
    → ((n : List ℕ) → new n ≡ (is_same name n || seen n)) → (list_any new others || repeats others) ≡ (list_any seen rest || repeats rest)
one_more seen new name rest others is absent after =
    ap (λ (b : Bool). b || repeats others) (any_either (is_same name) seen new others after)
    ∙ or_within (list_any (is_same name) others) (list_any seen others) (repeats others)
    ∙ ap (λ (b : Bool). (b || list_any seen others) || repeats (name ∷ others)) (sym absent)
    ∙ ap (λ (ns : List (List ℕ)). list_any seen ns || repeats ns) (sym is)

none_seen : (ns : List (List ℕ)) → list_any (λ n. false) ns ≡ false
none_seen [] = refl
none_seen (n ∷ ns) = none_seen ns

-- at first none is seen
pub at_first : (seen : List ℕ → Bool) (ns : List (List ℕ)) → ((n : List ℕ) → seen n ≡ false) → (list_any seen ns || repeats ns) ≡ repeats ns
at_first seen ns none =
    ap (λ (b : Bool). b || repeats ns) (ap (λ (p : List ℕ → Bool). list_any p ns) (λ i n. none n i) ∙ none_seen ns)

-- one that was seen stands twice
pub seen_before : (seen : List ℕ → Bool) (name : List ℕ) (rest others : List (List ℕ)) (whole : Bool) → rest ≡ name ∷ others → seen name ≡ true
    → (list_any seen rest || repeats rest) ≡ whole → whole ≡ true
seen_before seen name rest others whole is there was =
    sym was ∙ ap (λ (ns : List (List ℕ)). list_any seen ns || repeats ns) is
    ∙ ap (λ (b : Bool). (b || list_any seen others) || repeats (name ∷ others)) there

or_is : (b r : Bool) → cond b true r ≡ (b || r)
or_is true r = refl
or_is false r = refl

-- a name is in the set where it is the one that was put in, or was there before
pub put : (key : Bor (List ℕ)) (name : List ℕ) (xs ys : List (Bor (List ℕ))) → key.now ≡ name
    → ((q : Bor (List ℕ)) → list_any (λ k. is_same q.now k.now) ys ≡ cond (is_same key.now q.now) true (list_any (λ k. is_same q.now k.now) xs))
    → (n : List ℕ) → holds ys n ≡ (is_same name n || holds xs n)
put key name xs ys is after n =
    after (record key { now = n }) ∙ or_is (is_same key.now n) (holds xs n) ∙ ap (λ (x : List ℕ). is_same x n || holds xs n) is

flipped : (a b : Bool) → a ≡ not b → b ≡ not a
flipped true true e = absurd (cc)
flipped true false e = refl
flipped false true e = refl
flipped false false e = absurd (cc)

-- what putting a name in tells of it
pub told : (key : Bor (List ℕ)) (name : List ℕ) (xs : List (Bor (List ℕ))) (new : Bool) → key.now ≡ name → new ≡ not (list_any (λ k. is_same key.now k.now) xs)
    → holds xs name ≡ not new
told key name xs new is e = ap (holds xs) (sym is) ∙ flipped new (holds xs key.now) e

-- ---- a name that stands twice, and two paths of which one begins the other

same_is : (a b : List ℕ) → is_same a b ≡ true → a ≡ b
same_is a b e = (bytes_eq-Decides a b).0 (sym (is_eq-slice_cmp a b) ∙ e)

is_the_same : (a b : List ℕ) → a ≡ b → is_same a b ≡ true
is_the_same a b e = is_eq-slice_cmp a b ∙ (bytes_eq-Decides a b).1 e

abbrev At : List (List ℕ) → DocPath → Type 0
At names path = (k : ℕ) × (slice_get (map path_to names) k ≡ Some path)

place_of : (names : List (List ℕ)) (name : List ℕ) → has names name ≡ true → At names (path_to name)
place_of [] name e = absurd (cc)
place_of (n ∷ ns) name e = go (is_same name n) refl e (place_of ns name) where
  go : (b : Bool) → is_same name n ≡ b → (b || has ns name) ≡ true → (has ns name ≡ true → At ns (path_to name)) → At (n ∷ ns) (path_to name)
  go true same more later = (0, ap (λ (x : List ℕ). Some (path_to x)) (sym (same_is name n same)))
  go false same more later = let at = later more in (suc at.0, at.1)

overlap_of : (names : List (List ℕ)) → repeats names ≡ true → HaveOverlap (map path_to names)
overlap_of [] e = absurd (cc)
overlap_of (name ∷ names) e = go (has names name) refl e (overlap_of names) where
  go : (b : Bool) → has names name ≡ b → (b || repeats names) ≡ true → (repeats names ≡ true → HaveOverlap (map path_to names))
      → HaveOverlap (map path_to (name ∷ names))
  go true here more later =
      let at = place_of names name here in
      record { i = 0; j = suc at.0; p = path_to name; q = path_to name; apart = omega arith; first = refl; second = at.1; overlap = inl ([], refl) }
  go false here more later =
      let h = later more in
      record { i = suc h.i; j = suc h.j; p = h.p; q = h.q; apart = omega (arith, h.apart); first = h.first; second = h.second; overlap = h.overlap }

or_right : (a b : Bool) → b ≡ true → (a || b) ≡ true
or_right true b e = refl
or_right false b e = e

or_left : (a b : Bool) → a ≡ true → (a || b) ≡ true
or_left true b e = refl
or_left false b e = absurd (cc)

one_name : (a b : List ℕ) → Overlap (path_to a) (path_to b) → a ≡ b
one_name a b (inl (more, is)) = cc
one_name a b (inr (more, is)) = cc

has_at : (names : List (List ℕ)) (name : List ℕ) (k : ℕ) (q : DocPath) → slice_get (map path_to names) k ≡ Some q → Overlap (path_to name) q → has names name ≡ true
has_at [] name k q there o = absurd (cc)
has_at (n ∷ ns) name zero q there o =
    let at : q ≡ path_to n = cc in
    or_left (is_same name n) (has ns name) (is_the_same name n (one_name name n (subst (Overlap (path_to name)) at o)))
has_at (n ∷ ns) name (suc k) q there o = or_right (is_same name n) (has ns name) (has_at ns name k q there o)

repeats_at : (names : List (List ℕ)) (i j : ℕ) (p q : DocPath) → i < j → slice_get (map path_to names) i ≡ Some p → slice_get (map path_to names) j ≡ Some q
    → Overlap p q → repeats names ≡ true
repeats_at [] i j p q less first second o = absurd (cc)
repeats_at (n ∷ ns) zero zero p q less first second o = absurd (omega arith)
repeats_at (n ∷ ns) zero (suc j) p q less first second o =
    let at : p ≡ path_to n = cc in
    or_left (has ns n) (repeats ns) (has_at ns n j q second (subst (λ (x : DocPath). Overlap x q) at o))
repeats_at (n ∷ ns) (suc i) zero p q less first second o = absurd (omega arith)
repeats_at (n ∷ ns) (suc i) (suc j) p q less first second o = or_right (has ns n) (repeats ns) (repeats_at ns i j p q (omega arith) first second o)

pub overlap_is : (names : List (List ℕ)) (b : Bool) → repeats names ≡ b → IsTrue b ↔ HaveOverlap (map path_to names)
overlap_is names b e = (
  (λ yes. overlap_of names (e ∙ yes)),
  (λ h. sym e ∙ repeats_at names h.i h.j h.p h.q h.apart h.first h.second h.overlap),
)
