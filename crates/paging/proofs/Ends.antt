-- The ends of a range, and what of the range comes after a place.
use Rattle.std.proofs.Common.{◌≡◌, ◌≤◌, length, arith, Bool, true, false, if◌then◌else◌, List, [], ◌∷◌, ◌++◌, Option, None, Some, refl, sym, ap, ◌∙◌, subst}
use Rattle.std.proofs.lemmas.Bool.{cond-true, cond-false, not-true, not-false, not_from_true, not_from_false}
use Rattle.std.proofs.lemmas.List.{append-nil, reverse-append}
use Rattle.std.proofs.lemmas.List.Elements.{filter-append}
use Rattle.std.proofs.lemmas.List.Sums.{length-filter, count_by-le-length}
use Rattle.std.specs.Prelude.{reverse, slice_get, not, ◌&&◌}
use Rattle.std.specs.List.{filter, AllByRecursion}
use Rattle.std.specs.List.Sorted.{IsStrictlySortedBy}
use Rattle.std.specs.Cmp.{IsTotalOrder}
use Rattle.std.specs.Map.{keys_of}
use Rattle.std.specs.Ordering.{is_lt, is_le, ordering_reverse, flip_args}
use Rattle.std.specs.BTreeMap.Range.{is_from_start, is_past_end, range_contains, entries_between}
use Rattle.std.specs.declared.cmp.Ordering.{Ordering}
use Rattle.std.specs.declared.cmp.Ordering.TheVariants.{Less, Equal, Greater}
use Rattle.std.specs.declared.ops.Bound.{Bound}
use Rattle.std.specs.declared.ops.Bound.TheVariants.{Included, Excluded, Unbounded}
use Rattle.paging.specs.Rows.{rows_after}
use Rattle.paging.specs.MapRange.{start_of, end_of}
use Rattle.paging.proofs.Ordered.{Ascends, ascends, sorted, ascends_back, all_weaker, reverse_cons}

less_is : (o : Ordering) → is_lt o ≡ true → o ≡ Less
less_is Less lt = refl
less_is Equal lt = absurd (cc)
less_is Greater lt = absurd (cc)

lt_is_le : (o : Ordering) → is_lt o ≡ true → is_le o ≡ true
lt_is_le Less lt = refl
lt_is_le Equal lt = refl
lt_is_le Greater lt = absurd (cc)

not_both : (b : Bool) → b ≡ true → b ≡ false → ⊥
not_both b one other = cc

module _ {K : Type 0} {R : K → K → Ordering} (total : IsTotalOrder R) where
  lt_turned : (x y : K) → is_lt (R x y) ≡ not (is_le (R y x))
  lt_turned x y = ap is_lt (total.antisymm x y) ∙ at (R y x)
    where
      at : (o : Ordering) → is_lt (ordering_reverse o) ≡ not (is_le o)
      at Less = refl
      at Equal = refl
      at Greater = refl

  le_lt : (x y z : K) → is_le (R x y) ≡ true → is_lt (R y z) ≡ true → is_lt (R x z) ≡ true
  le_lt x y z le lt = at (R x y) refl le
    where
      at : (o : Ordering) → R x y ≡ o → is_le o ≡ true → is_lt (R x z) ≡ true
      at Less is le = ap is_lt (total.trans x y z is (less_is (R y z) lt))
      at Equal is le = ap is_lt (total.congr x y z is) ∙ lt
      at Greater is le = absurd (cc)

  lt_le : (x y z : K) → is_lt (R x y) ≡ true → is_le (R y z) ≡ true → is_lt (R x z) ≡ true
  lt_le x y z lt le = at (R y z) refl le
    where
      at : (o : Ordering) → R y z ≡ o → is_le o ≡ true → is_lt (R x z) ≡ true
      at Less is le = ap is_lt (total.trans x y z (less_is (R x y) lt) is)
      at Equal is le =
          let tied : R z y ≡ Equal = total.antisymm z y ∙ ap ordering_reverse is in
          ap is_lt (total.antisymm x z ∙ ap ordering_reverse (total.congr z y x tied) ∙ sym (total.antisymm x y)) ∙ lt
      at Greater is le = absurd (cc)

  not_le : (x y : K) → is_le (R x y) ≡ false → is_lt (R y x) ≡ true
  not_le x y out = lt_turned y x ∙ ap not out

  not_lt : (x y : K) → is_lt (R x y) ≡ false → is_le (R y x) ≡ true
  not_lt x y out = not-false (is_le (R y x)) (sym (lt_turned x y) ∙ out)

  from_up : (low : Bound K) (x y : K) → is_from_start R low x ≡ true → is_lt (R x y) ≡ true → is_from_start R low y ≡ true
  from_up (Included end) x y from lt = lt_is_le (R end y) (le_lt end x y from lt)
  from_up (Excluded end) x y from lt = le_lt end x y (lt_is_le (R end x) from) lt
  from_up Unbounded x y from lt = refl

  past_up : (high : Bound K) (x y : K) → is_past_end R high x ≡ true → is_lt (R x y) ≡ true → is_past_end R high y ≡ true
  past_up (Included end) x y past lt = le_lt end x y (lt_is_le (R end x) past) lt
  past_up (Excluded end) x y past lt = lt_is_le (R end y) (le_lt end x y past lt)
  past_up Unbounded x y past lt = past

  from_apart : (low : Bound K) (x y : K) → is_from_start R low x ≡ false → is_from_start R low y ≡ true → is_lt (R x y) ≡ true
  from_apart (Included end) x y out from = lt_le x end y (not_le end x out) from
  from_apart (Excluded end) x y out from = le_lt x end y (not_lt end x out) from
  from_apart Unbounded x y out from = absurd (cc)

  past_apart : (high : Bound K) (x y : K) → is_past_end R high x ≡ false → is_past_end R high y ≡ true → is_lt (R x y) ≡ true
  past_apart (Included end) x y within past = le_lt x end y (not_lt end x within) past
  past_apart (Excluded end) x y within past = lt_le x end y (not_le end x within) past
  past_apart Unbounded x y within past = absurd (cc)

-- where the third test implies the first, and where the first two imply the third
third_for_first : (a b c : Bool) → (c ≡ true → a ≡ true) → ((a && b) && c) ≡ (c && b)
third_for_first true true true h = refl
third_for_first true true false h = refl
third_for_first true false true h = refl
third_for_first true false false h = refl
third_for_first false b true h = absurd (not_both false (h refl) refl)
third_for_first false b false h = refl

no_third : (a b c : Bool) → (a ≡ true → b ≡ true → c ≡ true) → ((a && b) && c) ≡ (a && b)
no_third true true c h = h refl refl
no_third true false c h = refl
no_third false b c h = refl

third_for_second : (a b c : Bool) → (c ≡ true → b ≡ true) → ((a && b) && c) ≡ (a && c)
third_for_second true true c h = refl
third_for_second true false true h = absurd (not_both false (h refl) refl)
third_for_second true false false h = refl
third_for_second false b c h = refl

module _ {K : Type 0} {R : K → K → Ordering} (total : IsTotalOrder R) where
  -- what lies in a range and after a place lies in the range from there on
  start_moved : (low high : Bound K) (place key : K) → (range_contains R low high key && is_lt (R place key)) ≡ range_contains R (start_of R low (Some place)) high key
  start_moved low high place key = at (is_from_start R low place) refl
    where
      at : (b : Bool) → is_from_start R low place ≡ b
          → (range_contains R low high key && is_lt (R place key)) ≡ range_contains R (if b then Excluded place else low) high key
      at true is = third_for_first (is_from_start R low key) (not (is_past_end R high key)) (is_lt (R place key)) (from_up total low place key is)
      at false is = no_third (is_from_start R low key) (not (is_past_end R high key)) (is_lt (R place key)) (λ from within. from_apart total low place key is from)

  -- and what lies before a place, in the range up to there
  end_moved : (low high : Bound K) (place key : K) → (range_contains R low high key && is_lt (R key place)) ≡ range_contains R low (end_of R high (Some place)) key
  end_moved low high place key = at (is_past_end R high place) refl
    where
      within : is_past_end R high place ≡ false → is_lt (R key place) ≡ true → not (is_past_end R high key) ≡ true
      within is lt = in_or_out (is_past_end R high key) refl
        where
          in_or_out : (b : Bool) → is_past_end R high key ≡ b → not b ≡ true
          in_or_out true past = absurd (not_both (is_past_end R high place) (past_up total high key place past lt) is)
          in_or_out false past = refl

      at : (b : Bool) → is_past_end R high place ≡ b
          → (range_contains R low high key && is_lt (R key place)) ≡ range_contains R low (if b then high else Excluded place) key
      at true is =
          no_third (is_from_start R low key) (not (is_past_end R high key)) (is_lt (R key place))
          (λ from within. past_apart total high key place (not-true (is_past_end R high key) within) is)
      at false is =
          third_for_second (is_from_start R low key) (not (is_past_end R high key)) (is_lt (R key place)) (within is)
          ∙ ap (λ b. is_from_start R low key && b) (lt_turned total key place)

pub filter_reverse : {X : Type 0} (test : X → Bool) (xs : List X) → filter test (reverse xs) ≡ reverse (filter test xs)
filter_reverse test [] = refl
filter_reverse {X} test (x ∷ xs) =
    ap (filter test) (reverse_cons x xs) ∙ filter-append test (reverse xs) (x ∷ []) ∙ ap (λ front. front ++ (if test x then x ∷ [] else [])) (filter_reverse test xs) ∙ at (test x)
  where
    at : (b : Bool) → reverse (filter test xs) ++ (if b then x ∷ [] else []) ≡ reverse (if b then x ∷ filter test xs else filter test xs)
    at true = sym (reverse_cons x (filter test xs))
    at false = append-nil (reverse (filter test xs))

pub filter_filter : {X : Type 0} (test other : X → Bool) (xs : List X) → filter other (filter test xs) ≡ filter (λ x. test x && other x) xs
filter_filter test other [] = refl
filter_filter {X} test other (x ∷ xs) = at (test x) (filter_filter test other xs)
  where
    at : (b : Bool) → filter other (filter test xs) ≡ filter (λ y. test y && other y) xs
        → filter other (if b then x ∷ filter test xs else filter test xs) ≡ (if b && other x then x ∷ filter (λ y. test y && other y) xs else filter (λ y. test y && other y) xs)
    at true same = ap (λ rest. if other x then x ∷ rest else rest) same
    at false same = same

all_filter : {X : Type 0} (P : X → Type 0) (test : X → Bool) (xs : List X) → AllByRecursion P xs → AllByRecursion P (filter test xs)
all_filter P test [] all = tt
all_filter {X} P test (x ∷ xs) all = at (test x) (all_filter P test xs all.1)
  where
    at : (b : Bool) → AllByRecursion P (filter test xs) → AllByRecursion P (if b then x ∷ filter test xs else filter test xs)
    at true rest = (all.0, rest)
    at false rest = rest

pub ascends_filter : {K X : Type 0} (R : K → K → Ordering) (test : K × X → Bool) (rows : List (K × X)) → Ascends R rows → Ascends R (filter test rows)
ascends_filter R test [] up = tt
ascends_filter {K} {X} R test (row ∷ rows) up = at (test row) (ascends_filter R test rows up.1)
  where
    at : (b : Bool) → Ascends R (filter test rows) → Ascends R (if b then row ∷ filter test rows else filter test rows)
    at true rest = (all_filter (λ other. R row.0 other.0 ≡ Less) test rows up.0, rest)
    at false rest = rest

none_pass : {X : Type 0} (test : X → Bool) (xs : List X) → AllByRecursion (λ x. test x ≡ false) xs → filter test xs ≡ []
none_pass test [] all = refl
none_pass test (x ∷ xs) all = cond-false (test x) _ _ all.0 ∙ none_pass test xs all.1

-- of rows in order whose first fails a test that fails from then on, none passes
pub none_from : {K X : Type 0} (R : K → K → Ordering) (test : K → Bool) → ((x y : K) → test x ≡ false → R x y ≡ Less → test y ≡ false)
    → (first : K × X) (rest : List (K × X)) → Ascends R (first ∷ rest) → test first.0 ≡ false → filter (λ row. test row.0) (first ∷ rest) ≡ []
none_from R test on first rest up out =
    none_pass (λ row. test row.0) (first ∷ rest)
    (out, all_weaker (λ other. R first.0 other.0 ≡ Less) (λ other. test other.0 ≡ false) (λ other less. on first.0 other.0 out less) rest up.0)

module _ {K X : Type 0} (R : K → K → Ordering) (low high : Bound K) (rows : List (K × X)) where
  -- a range of rows in order is in order, and has no more rows
  pub between_sorted : IsStrictlySortedBy R (keys_of rows) → IsStrictlySortedBy R (keys_of (entries_between R low high rows))
  between_sorted up = sorted R _ (ascends_filter R (λ (row : K × X). range_contains R low high row.0) rows (ascends R rows up))

  pub between_fewer : length (entries_between R low high rows) ≤ length rows
  between_fewer =
      let test : K × X → Bool = λ row. range_contains R low high row.0 in
      omega (arith, length-filter test rows, count_by-le-length test rows)

module _ {K X : Type 0} {R : K → K → Ordering} (total : IsTotalOrder R) where
  -- what of a range comes after a place is the range from there on, and before a place the range up to there
  pub rows_from : (low high : Bound K) (after : Option K) (rows : List (K × X))
      → rows_after R true after (entries_between R low high rows) ≡ entries_between R (start_of R low after) high rows
  rows_from low high None rows = refl
  rows_from low high (Some place) rows =
      filter_filter (λ (row : K × X). range_contains R low high row.0) (λ row. is_lt (R place row.0)) rows
      ∙ (λ j. filter (λ (row : K × X). start_moved total low high place row.0 j) rows)

  pub rows_up_to : (low high : Bound K) (before : Option K) (rows : List (K × X))
      → rows_after R false before (entries_between R low high rows) ≡ reverse (entries_between R low (end_of R high before) rows)
  rows_up_to low high None rows = refl
  rows_up_to low high (Some place) rows =
      filter_reverse (λ (row : K × X). is_lt (R row.0 place)) (entries_between R low high rows)
      ∙ ap reverse (filter_filter (λ (row : K × X). range_contains R low high row.0) (λ row. is_lt (R row.0 place)) rows
      ∙ (λ j. filter (λ (row : K × X). end_moved total low high place row.0 j) rows))

with_true : (a : Bool) → a ≡ (a && true)
with_true true = refl
with_true false = refl

and_turned : (a b : Bool) → (a && b) ≡ (b && a)
and_turned true true = refl
and_turned true false = refl
and_turned false true = refl
and_turned false false = refl

module _ {K X : Type 0} (R : K → K → Ordering) (low high : Bound K) (rows : List (K × X)) where
  -- a range is what is not past its high end of what comes from its low end on
  up_to_end : entries_between R low high rows ≡ filter (λ row. not (is_past_end R high row.0)) (entries_between R low Unbounded rows)
  up_to_end =
      (λ j. filter (λ (row : K × X). with_true (is_from_start R low row.0) j && not (is_past_end R high row.0)) rows)
      ∙ sym (filter_filter (λ (row : K × X). range_contains R low Unbounded row.0) (λ row. not (is_past_end R high row.0)) rows)

  -- and what comes from its low end on of what is not past its high end
  from_start : entries_between R low high rows ≡ filter (λ row. is_from_start R low row.0) (entries_between R Unbounded high rows)
  from_start =
      (λ j. filter (λ (row : K × X). and_turned (is_from_start R low row.0) (not (is_past_end R high row.0)) j) rows)
      ∙ sym (filter_filter (λ (row : K × X). range_contains R Unbounded high row.0) (λ row. is_from_start R low row.0) rows)

  pub first_none : entries_between R low Unbounded rows ≡ [] → None ≡ slice_get (entries_between R low high rows) 0
  first_none none = sym (ap (λ es. slice_get es 0) (up_to_end ∙ ap (filter (λ (row : K × X). not (is_past_end R high row.0))) none))

  pub last_none : entries_between R Unbounded high rows ≡ [] → None ≡ slice_get (reverse (entries_between R low high rows)) 0
  last_none none = sym (ap (λ es. slice_get (reverse es) 0) (from_start ∙ ap (filter (λ (row : K × X). is_from_start R low row.0)) none))

  module _ (total : IsTotalOrder R) (sorted : IsStrictlySortedBy R (keys_of rows)) (found : K × X) where
    pub first_past : (rest : List (K × X)) → entries_between R low Unbounded rows ≡ found ∷ rest → is_past_end R high found.0 ≡ true
        → None ≡ slice_get (entries_between R low high rows) 0
    first_past rest is past =
        let up : Ascends R (found ∷ rest) = subst (Ascends R) is (ascends_filter R (λ (row : K × X). range_contains R low Unbounded row.0) rows (ascends R rows sorted)) in
        let on : (x y : K) → not (is_past_end R high x) ≡ false → R x y ≡ Less → not (is_past_end R high y) ≡ false
        = λ x y out less. not_from_true (is_past_end R high y) (past_up total high x y (not-false (is_past_end R high x) out) (ap is_lt less)) in
        sym (ap (λ es. slice_get es 0) (up_to_end ∙ ap (filter (λ (row : K × X). not (is_past_end R high row.0))) is
        ∙ none_from R (λ key. not (is_past_end R high key)) on found rest up (not_from_true (is_past_end R high found.0) past)))

    pub first_within : (rest : List (K × X)) → entries_between R low Unbounded rows ≡ found ∷ rest → is_past_end R high found.0 ≡ false
        → Some found ≡ slice_get (entries_between R low high rows) 0
    first_within rest is within =
        sym (ap (λ es. slice_get es 0) (up_to_end ∙ ap (filter (λ (row : K × X). not (is_past_end R high row.0))) is
        ∙ cond-true (not (is_past_end R high found.0)) _ _ (not_from_false (is_past_end R high found.0) within)))

    backward : (front : List (K × X)) → entries_between R Unbounded high rows ≡ front ++ found ∷ []
        → reverse (entries_between R low high rows) ≡ filter (λ row. is_from_start R low row.0) (found ∷ reverse front)
    backward front is =
        ap reverse from_start ∙ sym (filter_reverse (λ (row : K × X). is_from_start R low row.0) (entries_between R Unbounded high rows))
        ∙ ap (filter (λ (row : K × X). is_from_start R low row.0)) (ap reverse is ∙ reverse-append front (found ∷ []))

    pub last_out : (front : List (K × X)) → entries_between R Unbounded high rows ≡ front ++ found ∷ [] → is_from_start R low found.0 ≡ false
        → None ≡ slice_get (reverse (entries_between R low high rows)) 0
    last_out front is out =
        let down : Ascends (flip_args R) (found ∷ reverse front) =
        subst (Ascends (flip_args R)) (ap reverse is ∙ reverse-append front (found ∷ []))
        (ascends_back R (entries_between R Unbounded high rows) (ascends_filter R (λ (row : K × X). range_contains R Unbounded high row.0) rows (ascends R rows sorted))) in
        let on : (x y : K) → is_from_start R low x ≡ false → flip_args R x y ≡ Less → is_from_start R low y ≡ false
        = λ x y outside less. still_out x y outside less in
        sym (ap (λ es. slice_get es 0) (backward front is ∙ none_from (flip_args R) (is_from_start R low) on found (reverse front) down out))
      where
        still_out : (x y : K) → is_from_start R low x ≡ false → R y x ≡ Less → is_from_start R low y ≡ false
        still_out x y outside less = at (is_from_start R low y) refl
          where
            at : (b : Bool) → is_from_start R low y ≡ b → b ≡ false
            at true from = absurd (not_both (is_from_start R low x) (from_up total low y x from (ap is_lt less)) outside)
            at false from = refl

    pub last_within : (front : List (K × X)) → entries_between R Unbounded high rows ≡ front ++ found ∷ [] → is_from_start R low found.0 ≡ true
        → Some found ≡ slice_get (reverse (entries_between R low high rows)) 0
    last_within front is from = sym (ap (λ es. slice_get es 0) (backward front is ∙ cond-true (is_from_start R low found.0) _ _ from))
