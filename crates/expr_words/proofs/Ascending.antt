-- Where keys ascend, a search by halves finds the first place that a search from the front finds.
use Rattle.std.proofs.Common.{◌≡◌, ◌+◌, ◌-◌, ◌<◌, ◌≤◌, ◌⊎◌, inl, inr, ℕ, zero, suc, Bool, true, false, not, cond, nat_lt, List, [], ◌∷◌, length, slice_index_or, Some, None, position, bytes_eq, refl, sym, ap, subst, ◌∙◌, true≢false, arith, HoldsAt, Result, Ok, Err, IsTrue, lt-ltb, le-ltb}
use Rattle.std.proofs.lemmas.Bool.{cases_order}
use Rattle.std.specs.List.{position_or_len, IsAllAdjacentAnswer}
use Rattle.std.specs.List.Sorted.{IsNonDecreasingBy, IsPartitionPoint, IsBinarySearchResult, IsSearchInRange}
use Rattle.std.specs.Cmp.Lexicographic.{slice_cmp, bytes_decides, texts_ties, nat_list_cmp_total}
use Rattle.std.specs.Result.{result_ok}
use Rattle.std.specs.Ordering.{nat_cmp, ordering_index, is_eq, is_lt}
use Rattle.std.specs.declared.cmp.Ordering.{Ordering}
use Rattle.std.specs.declared.cmp.Ordering.TheVariants.{Less, Equal, Greater}
use Rattle.expr_words.specs.Ascending.{Ascend}

abbrev text_cmp : List ℕ → List ℕ → Ordering
text_cmp = slice_cmp nat_cmp

module _ {X : Type 0} (key : X → List ℕ) (xs : List X) (up : Ascend key xs) where
  below : (i n : ℕ) (d : X) → i + suc n < length xs → text_cmp (key (slice_index_or xs i d)) (key (slice_index_or xs (i + suc n) d)) ≡ Less
  below i zero d h = up i d h
  below i (suc n) d h =
      let next : i + suc n + 1 ≡ i + suc (suc n) = omega arith in
      let far = below i n d (omega (arith, h)) in
      let near : text_cmp (key (slice_index_or xs (i + suc n) d)) (key (slice_index_or xs (i + suc (suc n)) d)) ≡ Less =
      subst (λ m. text_cmp (key (slice_index_or xs (i + suc n) d)) (key (slice_index_or xs m d)) ≡ Less) next (up (i + suc n) d (omega (arith, h))) in
      nat_list_cmp_total.trans (key (slice_index_or xs i d)) (key (slice_index_or xs (i + suc n) d)) (key (slice_index_or xs (i + suc (suc n)) d)) far near

  apart : (i j : ℕ) (d : X) → i < j → j < length xs → text_cmp (key (slice_index_or xs i d)) (key (slice_index_or xs j d)) ≡ Less
  apart i j d less h =
      let at : i + suc (j - i - 1) ≡ j = omega (arith, less) in
      subst (λ m. text_cmp (key (slice_index_or xs i d)) (key (slice_index_or xs m d)) ≡ Less) at (below i (j - i - 1) d (omega (arith, h, at)))

same_text : (a b : List ℕ) → text_cmp a b ≡ Equal → a ≡ b
same_text a b e = (bytes_decides a b).0 (texts_ties a b ∙ ap is_eq e)

-- the first place at which a test passes
position_at : {X : Type 0} (test : X → Bool) (xs : List X) (i : ℕ) (d : X) → i < length xs → test (slice_index_or xs i d) ≡ true
    → ((k : ℕ) → k < i → test (slice_index_or xs k d) ≡ false) → position_or_len test xs ≡ i
position_at test [] i d h pass fail = let x : ⊥ = omega (arith, h) in absurd x
position_at test (x ∷ xs) zero d h pass fail = ap (λ b. cond (not b) (1 + position_or_len test xs) 0) pass
position_at test (x ∷ xs) (suc i) d h pass fail =
    ap (λ b. cond (not b) (1 + position_or_len test xs) 0) (fail 0 (omega arith))
    ∙ ap (λ n. 1 + n) (position_at test xs i d (omega (arith, h)) pass (λ k less. fail (suc k) (omega (arith, less)))) ∙ one_more where
      one_more : 1 + i ≡ suc i
      one_more = omega arith

position_past : {X : Type 0} (test : X → Bool) (xs : List X) → ((k : ℕ) (d : X) → k < length xs → test (slice_index_or xs k d) ≡ false)
    → position_or_len test xs ≡ length xs
position_past test [] fail = refl
position_past test (x ∷ xs) fail =
    ap (λ b. cond (not b) (1 + position_or_len test xs) 0) (fail 0 x (omega arith))
    ∙ ap (λ n. 1 + n) (position_past test xs (λ k d less. fail (suc k) d (omega (arith, less)))) ∙ one_more where
      one_more : 1 + length xs ≡ length (x ∷ xs)
      one_more = omega arith

position_is : {X : Type 0} (test : X → Bool) (xs : List X) (i : ℕ) (d : X) → i < length xs → test (slice_index_or xs i d) ≡ true
    → ((k : ℕ) → k < i → test (slice_index_or xs k d) ≡ false) → Some i ≡ position test xs
position_is test xs i d h pass fail =
    let at = position_at test xs i d h pass fail in
    sym (ap (λ n. cond (nat_lt n (length xs)) (Some n) None) at ∙ ap (λ b. cond b (Some i) None) (lt-ltb i (length xs) h))

position_none : {X : Type 0} (test : X → Bool) (xs : List X) → ((k : ℕ) (d : X) → k < length xs → test (slice_index_or xs k d) ≡ false)
    → None ≡ position test xs
position_none test xs fail =
    let past = position_past test xs fail in
    sym (ap (λ n. cond (nat_lt n (length xs)) (Some n) None) past ∙ ap (λ b. cond b (Some (length xs)) None) (not_below (length xs))) where
      not_below : (n : ℕ) → nat_lt n n ≡ false
      not_below n = le-ltb n n (omega arith)

-- some element of a list that has one
an_element : {X : Type 0} (xs : List X) (i : ℕ) → i < length xs → X
an_element [] i h = let x : ⊥ = omega (arith, h) in absurd x
an_element (x ∷ xs) i h = x

module _ {X : Type 0} (key : X → List ℕ) (xs : List X) (up : Ascend key xs) (p : List ℕ) where
  abbrev test : X → Bool
  test y = bytes_eq (key y) p

  abbrev order : X → Ordering
  order y = text_cmp (key y) p

  test_is : (y : X) (o : Ordering) → order y ≡ o → test y ≡ is_eq o
  test_is y o e = texts_ties (key y) p ∙ ap is_eq e

  -- an element that is equal is the first that is
  found : (i : ℕ) → i < length xs → HoldsAt (λ y. order y ≡ Equal) xs i → Some i ≡ position test xs
  found i h equal =
      let d = an_element xs i h in
      let p_is : key (slice_index_or xs i d) ≡ p = same_text (key (slice_index_or xs i d)) p (equal d) in
      position_is test xs i d h (test_is (slice_index_or xs i d) Equal (equal d))
      (λ k less. test_is (slice_index_or xs k d) Less
      (subst (λ q. text_cmp (key (slice_index_or xs k d)) q ≡ Less) p_is (apart key xs up k i d less h)))

  abbrev rank : X → ℕ
  rank y = ordering_index (order y)

  rank_most : (o : Ordering) → ordering_index o ≤ 2
  rank_most Less = omega arith
  rank_most Equal = omega arith
  rank_most Greater = omega arith

  rises : IsNonDecreasingBy rank xs
  rises i j d le h = go (cases_order i j) (order (slice_index_or xs j d)) refl where
    go : (i ≡ j) ⊎ ((i < j) ⊎ (j < i)) → (o : Ordering) → order (slice_index_or xs j d) ≡ o → rank (slice_index_or xs i d) ≤ rank (slice_index_or xs j d)
    go (inl e) o is = subst (λ m. rank (slice_index_or xs i d) ≤ rank (slice_index_or xs m d)) e (omega arith)
    go (inr (inr over)) o is = let x : ⊥ = omega (arith, over, le) in absurd x
    go (inr (inl less)) Less is =
        let near = nat_list_cmp_total.trans (key (slice_index_or xs i d)) (key (slice_index_or xs j d)) p (apart key xs up i j d less h) is in
        let a : rank (slice_index_or xs i d) ≡ 0 = ap ordering_index near in omega (arith, a)
    go (inr (inl less)) Equal is =
        let near = subst (λ q. text_cmp (key (slice_index_or xs i d)) q ≡ Less) (same_text (key (slice_index_or xs j d)) p is) (apart key xs up i j d less h) in
        let a : rank (slice_index_or xs i d) ≡ 0 = ap ordering_index near in omega (arith, a)
    go (inr (inl less)) Greater is =
        let a : rank (slice_index_or xs j d) ≡ 2 = ap ordering_index is in
        let b = rank_most (order (slice_index_or xs i d)) in omega (arith, a, b)

  -- where the search ends between the less and the greater, none is equal
  not_found : (i : ℕ) → IsPartitionPoint (λ y. order y ≡ Less) (λ y. order y ≡ Greater) xs i → None ≡ position test xs
  not_found i (before, behind) = position_none test xs fail where
    fail : (k : ℕ) (d : X) → k < length xs → test (slice_index_or xs k d) ≡ false
    fail k d h = go (cases_order k i) where
      go : (k ≡ i) ⊎ ((k < i) ⊎ (i < k)) → test (slice_index_or xs k d) ≡ false
      go (inl e) = test_is (slice_index_or xs k d) Greater (behind k d (omega (arith, e)) h)
      go (inr (inl less)) = test_is (slice_index_or xs k d) Less (before k d (omega arith) less)
      go (inr (inr more)) = test_is (slice_index_or xs k d) Greater (behind k d (omega (arith, more)) h)

  answered : (r : Result ℕ ℕ) → IsSearchInRange r (length xs) → IsBinarySearchResult order xs r → result_ok r ≡ position test xs
  answered (Ok i) h equal = found i h equal
  answered (Err i) h parted = not_found i (parted rises)

  pub searched : (r : Result ℕ ℕ) (ys : List X) → ys ≡ xs → IsSearchInRange r (length ys) → IsBinarySearchResult order ys r → result_ok r ≡ position test xs
  searched r ys e h is = answered r (subst (λ l. IsSearchInRange r (length l)) e h) (subst (λ l. IsBinarySearchResult order l r) e is)

-- what a test of neighbours answers
abbrev pub Answers : {X : Type 0} → (X → List ℕ) → List X → Bool → Type 0
Answers key xs r = IsAllAdjacentAnswer (λ x y b. b ≡ is_lt (text_cmp (key x) (key y))) xs r

less_is : (o : Ordering) → true ≡ is_lt o → o ≡ Less
less_is Less e = refl
less_is Equal e = absurd (true≢false e)
less_is Greater e = absurd (true≢false e)

pub ascend_from : {X : Type 0} (key : X → List ℕ) (xs : List X) (r : Bool) → Answers key xs r → IsTrue r → Ascend key xs
ascend_from key xs true h t = λ k d less. less_is _ (h k d less)
ascend_from key xs false h t = absurd (true≢false (sym t))
