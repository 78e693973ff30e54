-- A sorted list whose neighbours are told apart is a set, and else has a repeat.
use Rattle.std.proofs.Common.{◌≡◌, ℕ, zero, suc, ◌+◌, ◌<◌, ◌≤◌, Bool, true, false, cond, List, [], ◌∷◌, ◌++◌, length, get_or, filter, not, ◌||◌, Result, Ok, Err, is_ok, sym, Ordering, Less, Equal, Greater, is_eq, refl, ap, ◌∙◌, subst, arith, add-one}
use Rattle.std.proofs.Math.Logic.{◌⊎◌, inl, inr}
use Rattle.std.specs.Cmp.{IsTotalOrder}
use Rattle.std.specs.Ordering.{is_lt, ordering_reverse, ordering_index}
use Rattle.std.specs.List.{AllByRecursion, IsAllAdjacentAnswer, count_by}
use Rattle.std.specs.List.Sorted.{IsPermutation, IsSorted, IsStrictlySortedBy, IsNonDecreasingBy, IsPartitionPoint, IsBinarySearchResult, IsSearchInRange}
use Rattle.std.proofs.lemmas.Cmp.{tied_itself}
use Rattle.std.proofs.lemmas.List.Sorted.{sum_by-IsPermutation}
use Rattle.std.proofs.lemmas.List.Sums.{sum_by-cons, sum_by-append}
use Rattle.std.proofs.lemmas.Map.Keys.{sorted_from_all_adjacent}
use Rattle.std.proofs.lemmas.List.Folds.{list_any_at, list_any_none}
use Rattle.ordered_set.specs.Sets.{HasRepeat, has}

is_less : (o : Ordering) → true ≡ is_lt o → o ≡ Less
is_less Less e = refl
is_less Equal e = cc
is_less Greater e = cc

-- a list that is not empty
pub some_there : {X : Type 0} (xs : List X) → (xs ≡ [] → ⊥) → 0 < length xs
some_there [] e = absurd (e refl)
some_there (x ∷ xs) e = omega arith

one_more : (k i : ℕ) → (k < i) ⊎ (i ≤ k) → (suc k < suc i) ⊎ (suc i ≤ suc k)
one_more k i (inl h) = inl (omega arith)
one_more k i (inr h) = inr (omega arith)

before_or_not : (k i : ℕ) → (k < i) ⊎ (i ≤ k)
before_or_not k zero = inr (omega arith)
before_or_not zero (suc i) = inl (omega arith)
before_or_not (suc k) (suc i) = one_more k i (before_or_not k i)

module _ {A : Type 0} {cmp : A → A → Ordering} (laws : IsTotalOrder cmp) where
  -- each element is below the next
  pub strictly_sorted : (xs : List A) → IsAllAdjacentAnswer (λ x y b. b ≡ is_lt (cmp x y)) xs true → IsStrictlySortedBy cmp xs
  unfolding IsStrictlySortedBy
  strictly_sorted [] up = tt
  strictly_sorted (x ∷ xs) up = sorted_from_all_adjacent laws (x ∷ xs) x (λ k h. is_less _ (up k x h))

  tied : (o p : Ordering) → o ≡ ordering_reverse p → false ≡ is_lt o → is_lt p ≡ false → is_eq o ≡ true
  tied Less p e below above = cc
  tied Equal p e below above = refl
  tied Greater Less e below above = cc
  tied Greater Equal e below above = cc
  tied Greater Greater e below above = cc

  counted : (p : A → Bool) (x : A) (xs : List A) → count_by p (x ∷ xs) ≡ cond (p x) 1 0 + count_by p xs
  counted p x xs = sum_by-cons (λ y. cond (p y) 1 0) x xs

  one_counted : (b : Bool) → b ≡ true → ◌≡◌ {A = ℕ} (cond b 1 0) 1
  one_counted true e = refl
  one_counted false e = cc

  none_counted : (b : Bool) → b ≡ false → ◌≡◌ {A = ℕ} (cond b 1 0) 0
  none_counted true e = cc
  none_counted false e = refl

  -- no element above another ties with it
  none_above : (x y : A) → cmp x y ≡ Equal → (ys : List A) → AllByRecursion (λ z. cmp y z ≡ Less) ys
      → count_by (λ z. is_eq (cmp x z)) ys ≡ 0
  none_above x y tie [] above = refl
  none_above x y tie (z ∷ ys) above =
      let other : is_eq (cmp x z) ≡ false = ap is_eq (laws.congr x y z tie ∙ above.0) in
      let first = counted (λ z. is_eq (cmp x z)) z ys in
      omega (arith, first, none_counted _ other, none_above x y tie ys above.1)

  once_more : (x y : A) (ys : List A) (o : Ordering) → cmp x y ≡ o → AllByRecursion (λ z. cmp y z ≡ Less) ys
      → count_by (λ z. is_eq (cmp x z)) ys ≤ 1 → count_by (λ z. is_eq (cmp x z)) (y ∷ ys) ≤ 1
  once_more x y ys Less e above rest =
      omega (arith, counted (λ z. is_eq (cmp x z)) y ys, none_counted _ (ap is_eq e), rest)
  once_more x y ys Equal e above rest =
      omega (arith, counted (λ z. is_eq (cmp x z)) y ys, one_counted _ (ap is_eq e), none_above x y e ys above)
  once_more x y ys Greater e above rest =
      omega (arith, counted (λ z. is_eq (cmp x z)) y ys, none_counted _ (ap is_eq e), rest)

  counted_once : (x : A) (ys : List A) → IsStrictlySortedBy cmp ys → count_by (λ z. is_eq (cmp x z)) ys ≤ 1
  unfolding IsStrictlySortedBy
  counted_once x [] up = omega arith
  counted_once x (y ∷ ys) up = once_more x y ys (cmp x y) refl up.0 (counted_once x ys up.1)

  -- a list with an order of its elements, each below the next, has none twice
  pub no_repeat : (elements xs : List A) → IsPermutation elements xs → IsStrictlySortedBy cmp xs
      → HasRepeat cmp elements → ⊥
  no_repeat elements xs moved up (x, twice) =
      let same = sum_by-IsPermutation (λ y. cond (is_eq (cmp x y)) 1 0) elements xs moved in
      omega (arith, same, counted_once x xs up, twice)

  -- two neighbours that pass a test are two elements that pass it
  neighbours_counted : (p : A → Bool) (xs : List A) (k : ℕ) (d : A) → suc k < length xs → p (get_or xs k d) ≡ true → p (get_or xs (suc k) d) ≡ true → 2 ≤ count_by p xs
  neighbours_counted p [] k d h first second = absurd (omega arith)
  neighbours_counted p (x ∷ []) k d h first second = absurd (omega arith)
  neighbours_counted p (x ∷ y ∷ xs) zero d h first second =
      omega (arith, counted p x (y ∷ xs), counted p y xs, one_counted (p x) first, one_counted (p y) second)
  neighbours_counted p (x ∷ y ∷ xs) (suc k) d h first second = omega (arith, counted p x (y ∷ xs), neighbours_counted p (y ∷ xs) k d (omega arith) first second)

  -- a sorted list with neighbours that are not told apart has an element twice
  pub repeated : (elements xs : List A) → IsPermutation elements xs → IsSorted cmp xs → IsAllAdjacentAnswer (λ x y b. b ≡ is_lt (cmp x y)) xs false → HasRepeat cmp elements
  repeated elements [] moved sorted (k, within, tie) = absurd (omega arith)
  repeated elements (first ∷ rest) moved sorted (k, within, tie) =
      let xs : List A = first ∷ rest in
      let x = get_or xs k first in
      let next : k + 1 ≡ suc k = add-one k in
      let same : is_eq (cmp x (get_or xs (suc k) first)) ≡ true =
      tied _ _ (laws.antisymm x (get_or xs (suc k) first)) (subst (λ j. false ≡ is_lt (cmp x (get_or xs j first))) next (tie first)) (subst (λ j. is_lt (cmp (get_or xs j first) x) ≡ false) next (sorted k first (omega arith) within)) in
      let twice = neighbours_counted (λ y. is_eq (cmp x y)) xs k first (omega arith) (ap is_eq (tied_itself laws x)) same in
      (x, subst (λ n. 2 ≤ n) (sum_by-IsPermutation (λ y. cond (is_eq (cmp x y)) 1 0) elements xs moved) twice)

  less_or_tied : (o p : Ordering) → o ≡ ordering_reverse p → is_lt p ≡ false → (is_eq o ≡ true → ⊥) → o ≡ Less
  less_or_tied Less p e above apart = refl
  less_or_tied Equal p e above apart = absurd (apart refl)
  less_or_tied Greater Less e above apart = cc
  less_or_tied Greater Equal e above apart = cc
  less_or_tied Greater Greater e above apart = cc

  -- a sorted list that has no element twice is a set
  pub strict_where_once : (xs : List A) → IsSorted cmp xs → ((x : A) → count_by (λ y. is_eq (cmp x y)) xs ≤ 1) → IsStrictlySortedBy cmp xs
  unfolding IsStrictlySortedBy
  strict_where_once [] sorted once = tt
  strict_where_once (first ∷ rest) sorted once =
      let xs : List A = first ∷ rest in
      sorted_from_all_adjacent laws xs first (λ k h.
      let x = get_or xs k first in
      let next : k + 1 ≡ suc k = add-one k in
      less_or_tied (cmp x (get_or xs (k + 1) first)) _ (laws.antisymm x (get_or xs (k + 1) first)) (sorted k first (omega arith) h)
      (λ tie.
      let twice = neighbours_counted (λ y. is_eq (cmp x y)) xs k first (omega arith) (ap is_eq (tied_itself laws x)) (subst (λ j. is_eq (cmp x (get_or xs j first)) ≡ true) next tie) in
      omega (arith, twice, once x)))

  -- ---- membership

  other_way : (o p : Ordering) → o ≡ ordering_reverse p → is_eq o ≡ is_eq p
  other_way o Less e = ap is_eq e
  other_way o Equal e = ap is_eq e
  other_way o Greater e = ap is_eq e

  -- elements that tie are both there or both not
  has_tied : (x y : A) → cmp x y ≡ Equal → (zs : List A) → has cmp x zs ≡ has cmp y zs
  has_tied x y tie [] = refl
  has_tied x y tie (z ∷ zs) =
      let first : cmp z x ≡ cmp z y = laws.antisymm z x ∙ ap ordering_reverse (laws.congr x y z tie) ∙ sym (laws.antisymm z y) in
      ap (λ o. is_eq o || has cmp x zs) first ∙ ap (λ b. is_eq (cmp z y) || b) (has_tied x y tie zs)

  either : (a b : Bool) → (a || b) ≡ false → (a ≡ false) × (b ≡ false)
  either true b e = cc
  either false b e = (refl, e)

  none_there : (x : A) (zs : List A) → has cmp x zs ≡ false → count_by (λ y. is_eq (cmp x y)) zs ≡ 0
  none_there x [] none = refl
  none_there x (z ∷ zs) none =
      let parts = either (is_eq (cmp z x)) (has cmp x zs) none in
      let apart : is_eq (cmp x z) ≡ false = other_way (cmp x z) (cmp z x) (laws.antisymm x z) ∙ parts.0 in
      omega (arith, counted (λ y. is_eq (cmp x y)) z zs, none_counted _ apart, none_there x zs parts.1)

  not_both : (b : Bool) → b ≡ true → b ≡ false → ⊥
  not_both b p q = cc

  kept_first : (x y : A) (s ys : List A) (there : Bool) → has cmp y s ≡ there → has cmp x s ≡ true → (o : Ordering) → cmp x y ≡ o
      → count_by (λ z. is_eq (cmp x z)) ys ≡ 0 → count_by (λ z. is_eq (cmp x z)) (cond (not there) (y ∷ ys) ys) ≡ 0
  kept_first x y s ys true is both o e rest = rest
  kept_first x y s ys false is both Equal e rest = absurd (not_both (has cmp y s) (sym (has_tied x y e s) ∙ both) is)
  kept_first x y s ys false is both Less e rest = omega (arith, counted (λ z. is_eq (cmp x z)) y ys, none_counted _ (ap is_eq e), rest)
  kept_first x y s ys false is both Greater e rest = omega (arith, counted (λ z. is_eq (cmp x z)) y ys, none_counted _ (ap is_eq e), rest)

  none_kept : (x : A) (s : List A) → has cmp x s ≡ true → (ys : List A) → count_by (λ z. is_eq (cmp x z)) (filter (λ y. not (has cmp y s)) ys) ≡ 0
  none_kept x s there [] = refl
  none_kept x s there (y ∷ ys) = kept_first x y s (filter (λ z. not (has cmp z s)) ys) (has cmp y s) refl there (cmp x y) refl (none_kept x s there ys)

  once_of_both : (x : A) (s ys : List A) → IsStrictlySortedBy cmp s → IsStrictlySortedBy cmp (filter (λ y. not (has cmp y s)) ys) → (there : Bool) → has cmp x s ≡ there
      → count_by (λ z. is_eq (cmp x z)) (s ++ filter (λ y. not (has cmp y s)) ys) ≤ 1
  once_of_both x s ys up others true is =
      let parts = sum_by-append (λ z. cond (is_eq (cmp x z)) 1 0) s (filter (λ y. not (has cmp y s)) ys) in
      omega (arith, parts, counted_once x s up, none_kept x s is ys)
  once_of_both x s ys up others false is =
      let parts = sum_by-append (λ z. cond (is_eq (cmp x z)) 1 0) s (filter (λ y. not (has cmp y s)) ys) in
      omega (arith, parts, none_there x s is, counted_once x (filter (λ y. not (has cmp y s)) ys) others)

  -- the elements of both sets in order are a set
  pub union_is_set : (s ys both : List A) → IsStrictlySortedBy cmp s → IsStrictlySortedBy cmp (filter (λ y. not (has cmp y s)) ys)
      → IsPermutation (s ++ filter (λ y. not (has cmp y s)) ys) both → IsSorted cmp both → IsStrictlySortedBy cmp both
  union_is_set s ys both up others moved sorted =
      strict_where_once both sorted (λ x.
      subst (λ n. n ≤ 1) (sym (sum_by-IsPermutation (λ y. cond (is_eq (cmp x y)) 1 0) _ both moved)) (once_of_both x s ys up others (has cmp x s) refl))

  -- ---- a search by halves

  tied_below : (a b x : A) → cmp a b ≡ Less → cmp b x ≡ Equal → cmp a x ≡ Less
  tied_below a b x below tie =
      laws.antisymm a x ∙ ap ordering_reverse (sym (laws.congr b x a tie)) ∙ sym (laws.antisymm a b) ∙ below

  at_most_two : (o : Ordering) → ordering_index o ≤ 2
  at_most_two Less = omega arith
  at_most_two Equal = omega arith
  at_most_two Greater = omega arith

  rising_step : (a b x : A) → cmp a b ≡ Less → (o : Ordering) → cmp b x ≡ o → ordering_index (cmp a x) ≤ ordering_index o
  rising_step a b x below Less e = rw (laws.trans a b x below e) (omega arith)
  rising_step a b x below Equal e = rw (tied_below a b x below e) (omega arith)
  rising_step a b x below Greater e = at_most_two (cmp a x)

  all_at : (P : A → Type 0) (ys : List A) → AllByRecursion P ys → (j : ℕ) (d : A) → j < length ys → P (get_or ys j d)
  all_at P [] all j d h = absurd (omega arith)
  all_at P (y ∷ ys) all zero d h = all.0
  all_at P (y ∷ ys) all (suc j) d h = all_at P ys all.1 j d (omega arith)

  rising : (xs : List A) (x : A) → IsStrictlySortedBy cmp xs → IsNonDecreasingBy (λ y. ordering_index (cmp y x)) xs
  unfolding IsStrictlySortedBy
  rising [] x up i j d h below = absurd (omega arith)
  rising (y ∷ ys) x up zero zero d h below = omega arith
  rising (y ∷ ys) x up zero (suc j) d h below =
      rising_step y (get_or ys j d) x (all_at (λ z. cmp y z ≡ Less) ys up.0 j d (omega arith)) (cmp (get_or ys j d) x) refl
  rising (y ∷ ys) x up (suc i) zero d h below = absurd (omega arith)
  rising (y ∷ ys) x up (suc i) (suc j) d h below = rising ys x up.1 i j d (omega arith) (omega arith)

  apart_at : (xs : List A) (x : A) (i k : ℕ) (d : A) → IsPartitionPoint (λ y. cmp y x ≡ Less) (λ y. cmp y x ≡ Greater) xs i → k < length xs
      → (k < i) ⊎ (i ≤ k) → is_eq (cmp (get_or xs k d) x) ≡ false
  apart_at xs x i k d point within (inl before) = ap is_eq (point.0 k d (omega arith) before)
  apart_at xs x i k d point within (inr after) = ap is_eq (point.1 k d after within)

  -- a search by halves says whether the element is there
  pub searched : (xs : List A) (x : A) → IsStrictlySortedBy cmp xs → (r : Result ℕ ℕ) → IsSearchInRange r (length xs) → IsBinarySearchResult (λ y. cmp y x) xs r
      → is_ok r ≡ has cmp x xs
  searched [] x up (Ok i) bound found = absurd (omega (arith, bound))
  searched [] x up (Err i) bound found = refl
  searched (first ∷ rest) x up (Ok i) bound found = sym (list_any_at (λ y. is_eq (cmp y x)) (first ∷ rest) i first bound (ap is_eq (found first)))
  searched (first ∷ rest) x up (Err i) bound found =
      let xs : List A = first ∷ rest in
      sym (list_any_none (λ y. is_eq (cmp y x)) xs (λ k d h. apart_at xs x i k d (found (rising xs x up)) h (before_or_not k i)))
