-- Rows in order: what comes after one of them.
use Rattle.std.proofs.Common.{◌≡◌, ◌≤◌, length, arith, Bool, true, false, if◌then◌else◌, List, [], ◌∷◌, ◌++◌, Option, None, Some, refl, sym, ap, ◌∙◌, subst}
use Rattle.std.proofs.lemmas.Bool.{cond-true, cond-false}
use Rattle.std.proofs.lemmas.List.{reverse-append, length-reverse}
use Rattle.std.proofs.lemmas.List.Sums.{length-filter, count_by-le-length}
use Rattle.std.proofs.lemmas.Cmp.{back_total, tied_itself}
use Rattle.std.specs.Prelude.{reverse, slice_get}
use Rattle.std.specs.List.{filter, AllByRecursion}
use Rattle.std.specs.List.Sorted.{IsStrictlySortedBy}
use Rattle.std.specs.Cmp.{IsTotalOrder}
use Rattle.std.specs.Map.{keys_of}
use Rattle.std.specs.Ordering.{is_lt, ordering_reverse, flip_args}
use Rattle.std.specs.declared.cmp.Ordering.{Ordering}
use Rattle.std.specs.declared.cmp.Ordering.TheVariants.{Less, Equal, Greater}
use Rattle.paging.specs.Rows.{in_direction, walk_order, rows_after}

-- each row's place is below those of the rows behind it
abbrev pub Ascends : {K X : Type 0} → (K → K → Ordering) → List (K × X) → Type 0
Ascends R [] = Unit {0}
Ascends R (row ∷ rows) = AllByRecursion (λ other. R row.0 other.0 ≡ Less) rows × Ascends R rows

pub all_weaker : {X : Type 0} (P Q : X → Type 0) → ((x : X) → P x → Q x) → (xs : List X) → AllByRecursion P xs → AllByRecursion Q xs
all_weaker P Q f [] all = tt
all_weaker P Q f (x ∷ xs) all = (f x all.0, all_weaker P Q f xs all.1)

all_push : {X : Type 0} (P : X → Type 0) (xs : List X) (y : X) → AllByRecursion P xs → P y → AllByRecursion P (xs ++ y ∷ [])
all_push P [] y all last = (last, tt)
all_push P (x ∷ xs) y all last = (all.0, all_push P xs y all.1 last)

pub reverse_cons : {X : Type 0} (x : X) (xs : List X) → reverse (x ∷ xs) ≡ reverse xs ++ x ∷ []
reverse_cons x xs = reverse-append (x ∷ []) xs

all_reverse : {X : Type 0} (P : X → Type 0) (xs : List X) → AllByRecursion P xs → AllByRecursion P (reverse xs)
all_reverse P [] all = tt
all_reverse P (x ∷ xs) all = subst (AllByRecursion P) (sym (reverse_cons x xs)) (all_push P (reverse xs) x (all_reverse P xs all.1) all.0)

ascends_push : {K X : Type 0} (R : K → K → Ordering) (rows : List (K × X)) (last : K × X)
    → Ascends R rows → AllByRecursion (λ row. R row.0 last.0 ≡ Less) rows → Ascends R (rows ++ last ∷ [])
ascends_push R [] last up below = (tt, tt)
ascends_push R (row ∷ rows) last up below = (all_push (λ other. R row.0 other.0 ≡ Less) rows last up.0 below.0, ascends_push R rows last up.1 below.1)

-- backward, rows in order are in the order turned round
pub ascends_back : {K X : Type 0} (R : K → K → Ordering) (rows : List (K × X)) → Ascends R rows → Ascends (flip_args R) (reverse rows)
ascends_back R [] up = tt
ascends_back R (row ∷ rows) up =
    subst (Ascends (flip_args R)) (sym (reverse_cons row rows))
    (ascends_push (flip_args R) (reverse rows) row (ascends_back R rows up.1) (all_reverse (λ other. R row.0 other.0 ≡ Less) rows up.0))

all_keys : {K X : Type 0} (P : K → Type 0) (rows : List (K × X)) → AllByRecursion P (keys_of rows) → AllByRecursion (λ row. P row.0) rows
all_keys P [] all = tt
all_keys P (row ∷ rows) all = (all.0, all_keys P rows all.1)

pub ascends : {K X : Type 0} (R : K → K → Ordering) (rows : List (K × X)) → IsStrictlySortedBy R (keys_of rows) → Ascends R rows
unfolding IsStrictlySortedBy
ascends R [] sorted = tt
ascends R (row ∷ rows) sorted = (all_keys (λ other. R row.0 other ≡ Less) rows sorted.0, ascends R rows sorted.1)

keys_all : {K X : Type 0} (P : K → Type 0) (rows : List (K × X)) → AllByRecursion (λ row. P row.0) rows → AllByRecursion P (keys_of rows)
keys_all P [] all = tt
keys_all P (row ∷ rows) all = (all.0, keys_all P rows all.1)

pub sorted : {K X : Type 0} (R : K → K → Ordering) (rows : List (K × X)) → Ascends R rows → IsStrictlySortedBy R (keys_of rows)
unfolding IsStrictlySortedBy
sorted R [] up = tt
sorted R (row ∷ rows) up = (keys_all (λ other. R row.0 other ≡ Less) rows up.0, sorted R rows up.1)

-- as a walk meets them, rows are in its order
pub in_walk_order : {K X : Type 0} (cmp : K → K → Ordering) (forward : Bool) (rows : List (K × X)) → IsStrictlySortedBy cmp (keys_of rows)
    → Ascends (walk_order cmp forward) (in_direction forward rows)
in_walk_order cmp true rows sorted = ascends cmp rows sorted
in_walk_order cmp false rows sorted = ascends_back cmp rows (ascends cmp rows sorted)

pub walk_total : {K : Type 0} {cmp : K → K → Ordering} → IsTotalOrder cmp → (forward : Bool) → IsTotalOrder (walk_order cmp forward)
walk_total total true = total
walk_total total false = back_total total

pub all_pass : {X : Type 0} (test : X → Bool) (xs : List X) → AllByRecursion (λ x. test x ≡ true) xs → filter test xs ≡ xs
all_pass test [] all = refl
all_pass test (x ∷ xs) all = cond-true (test x) _ _ all.0 ∙ ap (λ rest. x ∷ rest) (all_pass test xs all.1)

-- what holds of each element holds of the first that passes
pub first_has : {X : Type 0} (P : X → Type 0) (test : X → Bool) (xs : List X) (first : X) (rest : List X) → AllByRecursion P xs
    → filter test xs ≡ first ∷ rest → P first
first_has P test [] first rest all is = absurd (cc)
first_has {X} P test (x ∷ xs) first rest all is = at (test x) is (first_has P test xs first rest all.1)
  where
    at : (b : Bool) → (if b then x ∷ filter test xs else filter test xs) ≡ first ∷ rest → (filter test xs ≡ first ∷ rest → P first) → P first
    at true is later = let same : x ≡ first = cc in subst P same all.0
    at false is later = later is

module _ {K : Type 0} {R : K → K → Ordering} (total : IsTotalOrder R) where
  turned : (x y : K) → R x y ≡ Less → is_lt (R y x) ≡ false
  turned x y less = ap is_lt (total.antisymm y x ∙ ap ordering_reverse less)

  itself : (x : K) → is_lt (R x x) ≡ false
  itself x = ap is_lt (tied_itself total x)

module _ {K X : Type 0} {R : K → K → Ordering} (total : IsTotalOrder R) where
  below_all : (x y : K) (rows : List (K × X)) → R x y ≡ Less → AllByRecursion (λ other. R y other.0 ≡ Less) rows
      → AllByRecursion (λ other. is_lt (R x other.0) ≡ true) rows
  below_all x y rows less = all_weaker (λ other. R y other.0 ≡ Less) (λ other. is_lt (R x other.0) ≡ true) (λ other l. ap is_lt (total.trans x y other.0 less l)) rows

  -- of rows in order, those after the first are the rest
  after_first : (first : K × X) (rest : List (K × X)) → Ascends R (first ∷ rest) → filter (λ row. is_lt (R first.0 row.0)) (first ∷ rest) ≡ rest
  after_first first rest up =
      cond-false (is_lt (R first.0 first.0)) _ _ (itself total first.0)
      ∙ all_pass (λ row. is_lt (R first.0 row.0)) rest
      (all_weaker (λ other. R first.0 other.0 ≡ Less) (λ other. is_lt (R first.0 other.0) ≡ true) (λ other l. ap is_lt l) rest up.0)

  -- and of those after a place, those after the first of these
  after_next : (place : K) (rows : List (K × X)) (first : K × X) (rest : List (K × X)) → Ascends R rows
      → filter (λ row. is_lt (R place row.0)) rows ≡ first ∷ rest → filter (λ row. is_lt (R first.0 row.0)) rows ≡ rest
  after_next place [] first rest up is = absurd (cc)
  after_next place (row ∷ rows) first rest up is = at (R place row.0) refl is (after_next place rows first rest up.1)
    where
      skip : filter (λ r. is_lt (R place r.0)) rows ≡ first ∷ rest
          → (filter (λ r. is_lt (R place r.0)) rows ≡ first ∷ rest → filter (λ r. is_lt (R first.0 r.0)) rows ≡ rest) → filter (λ r. is_lt (R first.0 r.0)) (row ∷ rows) ≡ rest
      skip is later =
          let less : R row.0 first.0 ≡ Less = first_has (λ other. R row.0 other.0 ≡ Less) (λ r. is_lt (R place r.0)) rows first rest up.0 is in
          cond-false (is_lt (R first.0 row.0)) _ _ (turned total row.0 first.0 less) ∙ later is

      at : (o : Ordering) → R place row.0 ≡ o → (if is_lt o then row ∷ filter (λ r. is_lt (R place r.0)) rows else filter (λ r. is_lt (R place r.0)) rows) ≡ first ∷ rest
          → (filter (λ r. is_lt (R place r.0)) rows ≡ first ∷ rest → filter (λ r. is_lt (R first.0 r.0)) rows ≡ rest) → filter (λ r. is_lt (R first.0 r.0)) (row ∷ rows) ≡ rest
      at Less less is later =
          let same : row ≡ first = cc in
          let behind : filter (λ r. is_lt (R place r.0)) rows ≡ rest = cc in
          let all : filter (λ r. is_lt (R place r.0)) rows ≡ rows = all_pass (λ r. is_lt (R place r.0)) rows (below_all place row.0 rows less up.0) in
          subst (λ (e : K × X). filter (λ r. is_lt (R e.0 r.0)) (row ∷ rows) ≡ rest) same (after_first row rows up ∙ sym all ∙ behind)
      at Equal tied is later = skip is later
      at Greater more is later = skip is later

pub first_and_rest : {X : Type 0} (xs : List X) (first : X) → Some first ≡ slice_get xs 0 → (rest : List X) × (xs ≡ first ∷ rest)
first_and_rest [] first is = absurd (cc)
first_and_rest (x ∷ xs) first is = (xs, cc)

pub none_there : {X : Type 0} (xs : List X) → None ≡ slice_get xs 0 → xs ≡ []
none_there [] is = refl
none_there (x ∷ xs) is = absurd (cc)

-- the rows after a place are the first of them and the rows after that
pub next_row : {K X : Type 0} {cmp : K → K → Ordering} → IsTotalOrder cmp → (forward : Bool) (after : Option K) (rows : List (K × X)) (first : K × X)
    → IsStrictlySortedBy cmp (keys_of rows) → Some first ≡ slice_get (rows_after cmp forward after rows) 0
    → rows_after cmp forward after rows ≡ first ∷ rows_after cmp forward (Some first.0) rows
next_row {K} {X} {cmp} total forward None rows first sorted is =
    let parts = first_and_rest (in_direction forward rows) first is in
    let up : Ascends (walk_order cmp forward) (first ∷ parts.0) = subst (Ascends (walk_order cmp forward)) parts.1 (in_walk_order cmp forward rows sorted) in
    parts.1 ∙ ap (λ rest. first ∷ rest) (sym (ap (filter (λ (row : K × X). is_lt (walk_order cmp forward first.0 row.0))) parts.1 ∙ after_first (walk_total total forward) first parts.0 up))
next_row {K} {X} {cmp} total forward (Some place) rows first sorted is =
    let parts = first_and_rest (filter (λ (row : K × X). is_lt (walk_order cmp forward place row.0)) (in_direction forward rows)) first is in
    parts.1 ∙ ap (λ rest. first ∷ rest)
    (sym (after_next (walk_total total forward) place (in_direction forward rows) first parts.0 (in_walk_order cmp forward rows sorted) parts.1))

-- rows after a place are no more than all rows
pub fewer_after : {K X : Type 0} (cmp : K → K → Ordering) (forward : Bool) (after : Option K) (rows : List (K × X))
    → length (rows_after cmp forward after rows) ≤ length rows
fewer_after {K} {X} cmp forward after rows = at after
  where
    same : (towards : Bool) → length (in_direction towards rows) ≡ length rows
    same true = refl
    same false = length-reverse rows

    at : (after : Option K) → length (rows_after cmp forward after rows) ≤ length rows
    at None = omega (arith, same forward)
    at (Some place) =
        let test : K × X → Bool = λ row. is_lt (walk_order cmp forward place row.0) in
        omega (arith, same forward, length-filter test (in_direction forward rows), count_by-le-length test (in_direction forward rows))
