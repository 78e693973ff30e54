-- Lists in order with the same elements are the same, so a set has one list.
use Rattle.std.proofs.Common.{◌≡◌, ℕ, ℤ, List, [], ◌∷◌, ◌++◌, Bool, true, false, cond, filter, not, ◌||◌, Ordering, Less, Equal, Greater, int_cmp, nat_cmp, is_eq, refl, sym, ap, ◌∙◌, subst, ◌+◌, sum_by, arith}
use Rattle.std.proofs.Math.Logic.{◌⊎◌, inl, inr}
use Rattle.std.proofs.lemmas.Cmp.{tied_itself, int_ranked}
use Rattle.std.proofs.lemmas.Map.Text.{is_eq-slice_cmp}
use Rattle.std.proofs.lemmas.Slice.Eq.{bytes_eq-Decides}
use Rattle.std.specs.Cmp.{IsTotalOrder}
use Rattle.std.specs.Cmp.Lexicographic.{slice_cmp}
use Rattle.std.specs.List.{AllByRecursion}
use Rattle.std.specs.List.Sorted.{IsPermutation, IsStrictlySortedBy}
use Rattle.std.specs.Ordering.{match_ordering, ordering_reverse}
use Rattle.std.proofs.lemmas.List.Elements.{All-from_recursion, recursion_from_All}
use Rattle.std.proofs.lemmas.List.Sorted.{All-permutation, IsPermutation-sym}
use Rattle.std.proofs.lemmas.List.Sums.{sum_by-cons}
use Rattle.ordered_set.specs.Sets.{IsSetOf, has}
use Rattle.item_writes.specs.Union.{put_in, in_order, united}

abbrev pub In : {A : Type 0} → A → List A → Type 0
In z [] = ⊥
In z (y ∷ ys) = (z ≡ y) ⊎ In z ys

module _ {A : Type 0} where
  pub at_in : (P : A → Type 0) (ys : List A) → AllByRecursion P ys → (z : A) → In z ys → P z
  at_in P [] all z h = absurd h
  at_in P (y ∷ ys) all z (inl e) = subst P (sym e) all.0
  at_in P (y ∷ ys) all z (inr h) = at_in P ys all.1 z h

  pub all_in : (P : A → Type 0) (ys : List A) → ((z : A) → In z ys → P z) → AllByRecursion P ys
  all_in P [] h = tt
  all_in P (y ∷ ys) h = (h y (inl refl), all_in P ys (λ z k. h z (inr k)))

  -- what is in a list is in each of its orders
  pub moved_in : (xs ys : List A) → IsPermutation xs ys → (z : A) → In z ys → In z xs
  moved_in xs ys moved =
      at_in (λ z. In z xs) ys (recursion_from_All (λ z. In z xs) ys (All-permutation (λ z. In z xs) xs ys moved (All-from_recursion (λ z. In z xs) xs (all_in (λ z. In z xs) xs (λ z h. h)))))

  with_first : (z y : A) (ys zs : List A) → (In z ys → In z zs) → In z (y ∷ ys) → In z (y ∷ zs)
  with_first z y ys zs f (inl e) = inl e
  with_first z y ys zs f (inr h) = inr (f h)

  in_either : (z : A) (xs ys : List A) → In z (xs ++ ys) → In z xs ⊎ In z ys
  in_either z [] ys h = inr h
  in_either z (x ∷ xs) ys (inl e) = inl (inl e)
  in_either z (x ∷ xs) ys (inr h) = one_more (in_either z xs ys h)
    where
      one_more : In z xs ⊎ In z ys → In z (x ∷ xs) ⊎ In z ys
      one_more (inl k) = inl (inr k)
      one_more (inr k) = inr k

  in_first : (z : A) (xs ys : List A) → In z xs → In z (xs ++ ys)
  in_first z [] ys h = absurd h
  in_first z (x ∷ xs) ys (inl e) = inl e
  in_first z (x ∷ xs) ys (inr h) = inr (in_first z xs ys h)

  in_second : (z : A) (xs ys : List A) → In z ys → In z (xs ++ ys)
  in_second z [] ys h = h
  in_second z (x ∷ xs) ys h = inr (in_second z xs ys h)

  in_filter_step : (b : Bool) (z y : A) (ys : List A) → In z (cond b (y ∷ ys) ys) → In z (y ∷ ys)
  in_filter_step true z y ys h = h
  in_filter_step false z y ys h = inr h

  in_filter : (p : A → Bool) (z : A) (ys : List A) → In z (filter p ys) → In z ys
  in_filter p z [] h = h
  in_filter p z (y ∷ ys) h = with_first z y (filter p ys) ys (in_filter p z ys) (in_filter_step (p y) z y (filter p ys) h)

  filter_keeps_first : (p : A → Bool) (y : A) (ys : List A) (b : Bool) → p y ≡ b → b ≡ true → (z : A) → z ≡ y → In z (cond b (y ∷ filter p ys) (filter p ys))
  filter_keeps_first p y ys true e t z same = inl same
  filter_keeps_first p y ys false e t z same = cc

  filter_keeps_rest : (b : Bool) (z y : A) (ys : List A) → In z ys → In z (cond b (y ∷ ys) ys)
  filter_keeps_rest true z y ys h = inr h
  filter_keeps_rest false z y ys h = h

  in_filtered : (p : A → Bool) (z : A) (ys : List A) → p z ≡ true → In z ys → In z (filter p ys)
  in_filtered p z [] t h = h
  in_filtered p z (y ∷ ys) t (inl e) = filter_keeps_first p y ys (p y) refl (ap p (sym e) ∙ t) z e
  in_filtered p z (y ∷ ys) t (inr h) = filter_keeps_rest (p y) z y (filter p ys) (in_filtered p z ys t h)

module _ {A : Type 0} {cmp : A → A → Ordering} (laws : IsTotalOrder cmp) where
  never_both : (o p : Ordering) → o ≡ ordering_reverse p → o ≡ Less → p ≡ Less → ⊥
  never_both o p e f g = cc

  not_below_itself : (x y : A) → x ≡ y → cmp x y ≡ Less → ⊥
  not_below_itself x y e below = let same : cmp x y ≡ Equal = ap (cmp x) (sym e) ∙ tied_itself laws x in cc

  same_heads : (x y : A) (xs ys : List A) → AllByRecursion (λ z. cmp x z ≡ Less) xs → AllByRecursion (λ z. cmp y z ≡ Less) ys
      → In x (y ∷ ys) → In y (x ∷ xs) → x ≡ y
  same_heads x y xs ys up vp (inl e) k = e
  same_heads x y xs ys up vp (inr h) (inl e) = sym e
  same_heads x y xs ys up vp (inr h) (inr k) =
      absurd (never_both (cmp x y) (cmp y x) (laws.antisymm x y) (at_in (λ z. cmp x z ≡ Less) xs up y k) (at_in (λ z. cmp y z ≡ Less) ys vp x h))

  in_rest : (x y z : A) (xs ys : List A) → AllByRecursion (λ w. cmp x w ≡ Less) xs → x ≡ y → In z xs → In z (y ∷ ys) → In z ys
  in_rest x y z xs ys up e h (inl f) = absurd (not_below_itself x z (e ∙ sym f) (at_in (λ w. cmp x w ≡ Less) xs up z h))
  in_rest x y z xs ys up e h (inr k) = k

  -- two lists in order with the same elements
  pub same_lists : (xs ys : List A) → IsStrictlySortedBy cmp xs → IsStrictlySortedBy cmp ys → ((z : A) → In z xs → In z ys) → ((z : A) → In z ys → In z xs) → xs ≡ ys
  unfolding IsStrictlySortedBy
  same_lists [] [] up vp f g = refl
  same_lists [] (y ∷ ys) up vp f g = absurd (g y (inl refl))
  same_lists (x ∷ xs) [] up vp f g = absurd (f x (inl refl))
  same_lists (x ∷ xs) (y ∷ ys) up vp f g =
      let e = same_heads x y xs ys up.0 vp.0 (f x (inl refl)) (g y (inl refl)) in
      let rest = same_lists xs ys up.1 vp.1 (λ z h. in_rest x y z xs ys up.0 e h (f z (inr h))) (λ z h. in_rest y x z ys xs vp.0 (sym e) h (g z (inr h))) in
      λ i. e i ∷ rest i

  -- ---- an element put in its place

  put_from_step : (o : Ordering) (x y z : A) (ys more : List A) → (In z more → In z (x ∷ ys)) → In z (match_ordering o (x ∷ y ∷ ys) (y ∷ ys) (y ∷ more)) → In z (x ∷ y ∷ ys)
  put_from_step Less x y z ys more later h = h
  put_from_step Equal x y z ys more later h = inr h
  put_from_step Greater x y z ys more later (inl e) = inr (inl e)
  put_from_step Greater x y z ys more later (inr h) = over (later h)
    where
      over : In z (x ∷ ys) → In z (x ∷ y ∷ ys)
      over (inl e) = inl e
      over (inr k) = inr (inr k)

  put_from : (x z : A) (ys : List A) → In z (put_in cmp x ys) → In z (x ∷ ys)
  put_from x z [] h = h
  put_from x z (y ∷ ys) h = put_from_step (cmp x y) x y z ys (put_in cmp x ys) (put_from x z ys) h

  put_to_step : (o : Ordering) (x y z : A) (ys more : List A) → (o ≡ Equal → x ≡ y) → (In z (x ∷ ys) → In z more) → In z (x ∷ y ∷ ys) → In z (match_ordering o (x ∷ y ∷ ys) (y ∷ ys) (y ∷ more))
  put_to_step Less x y z ys more exact later h = h
  put_to_step Equal x y z ys more exact later (inl e) = inl (e ∙ exact refl)
  put_to_step Equal x y z ys more exact later (inr h) = h
  put_to_step Greater x y z ys more exact later (inl e) = inr (later (inl e))
  put_to_step Greater x y z ys more exact later (inr (inl e)) = inl e
  put_to_step Greater x y z ys more exact later (inr (inr h)) = inr (later (inr h))

  put_to : (x z : A) (ys : List A) → ((y : A) → In y ys → cmp x y ≡ Equal → x ≡ y) → In z (x ∷ ys) → In z (put_in cmp x ys)
  put_to x z [] exact h = h
  put_to x z (y ∷ ys) exact h =
      put_to_step (cmp x y) x y z ys (put_in cmp x ys) (exact y (inl refl)) (put_to x z ys (λ w k. exact w (inr k))) h

  all_put : (P : A → Type 0) (x : A) (ys : List A) → P x → AllByRecursion P ys → AllByRecursion P (put_in cmp x ys)
  all_put P x ys first all = all_in P (put_in cmp x ys) (λ z h. at_in P (x ∷ ys) (first, all) z (put_from x z ys h))

  turned : (o p : Ordering) → o ≡ ordering_reverse p → p ≡ Greater → o ≡ Less
  turned o p e f = cc

  put_up_step : (o : Ordering) (x y : A) (ys : List A) → cmp x y ≡ o → AllByRecursion (λ w. cmp y w ≡ Less) ys → IsStrictlySortedBy cmp ys → IsStrictlySortedBy cmp (put_in cmp x ys)
      → IsStrictlySortedBy cmp (match_ordering o (x ∷ y ∷ ys) (y ∷ ys) (y ∷ put_in cmp x ys))
  unfolding IsStrictlySortedBy
  put_up_step Less x y ys e all up rest = ((e, all_in (λ w. cmp x w ≡ Less) ys (λ z h. laws.trans x y z e (at_in (λ w. cmp y w ≡ Less) ys all z h))), (all, up))
  put_up_step Equal x y ys e all up rest = (all, up)
  put_up_step Greater x y ys e all up rest = (all_put (λ w. cmp y w ≡ Less) x ys (turned (cmp y x) (cmp x y) (laws.antisymm y x) e) all, rest)

  put_up : (x : A) (ys : List A) → IsStrictlySortedBy cmp ys → IsStrictlySortedBy cmp (put_in cmp x ys)
  unfolding IsStrictlySortedBy
  put_up x [] up = (tt, tt)
  put_up x (y ∷ ys) up = put_up_step (cmp x y) x y ys refl up.0 up.1 (put_up x ys up.1)

  -- ---- a list put in order

  in_order_up : (xs : List A) → IsStrictlySortedBy cmp (in_order cmp xs)
  unfolding IsStrictlySortedBy
  in_order_up [] = tt
  in_order_up (x ∷ xs) = put_up x (in_order cmp xs) (in_order_up xs)

  in_order_from : (z : A) (xs : List A) → In z (in_order cmp xs) → In z xs
  in_order_from z [] h = h
  in_order_from z (x ∷ xs) h = with_first z x (in_order cmp xs) xs (in_order_from z xs) (put_from x z (in_order cmp xs) h)

  in_order_to : (z : A) (xs : List A) → ((x y : A) → In x xs → In y xs → cmp x y ≡ Equal → x ≡ y) → In z xs → In z (in_order cmp xs)
  in_order_to z [] exact h = h
  in_order_to z (x ∷ xs) exact h =
      put_to x z (in_order cmp xs) (λ y k. exact x y (inl refl) (inr (in_order_from y xs k)))
      (with_first z x xs (in_order cmp xs) (in_order_to z xs (λ v w f g. exact v w (inr f) (inr g))) h)

  -- of a list in order, elements that tie are the same
  ties_same : (ys : List A) → IsStrictlySortedBy cmp ys → (x y : A) → In x ys → In y ys → cmp x y ≡ Equal → x ≡ y
  unfolding IsStrictlySortedBy
  ties_same [] up x y h k tie = absurd h
  ties_same (w ∷ ys) up x y (inl e) (inl f) tie = e ∙ sym f
  ties_same (w ∷ ys) up x y (inl e) (inr k) tie =
      let below : cmp x y ≡ Less = ap (λ v. cmp v y) e ∙ at_in (λ v. cmp w v ≡ Less) ys up.0 y k in cc
  ties_same (w ∷ ys) up x y (inr h) (inl f) tie =
      let below : cmp y x ≡ Less = ap (λ v. cmp v x) f ∙ at_in (λ v. cmp w v ≡ Less) ys up.0 x h in
      let turn : cmp x y ≡ ordering_reverse Less = laws.antisymm x y ∙ ap ordering_reverse below in cc
  ties_same (w ∷ ys) up x y (inr h) (inr k) tie = ties_same ys up.1 x y h k tie

  -- a list of the same elements that is in order is the list put in order
  pub in_order_same : (xs ys : List A) → IsStrictlySortedBy cmp ys → ((x y : A) → In x xs → In y xs → cmp x y ≡ Equal → x ≡ y) → ((z : A) → In z xs → In z ys) → ((z : A) → In z ys → In z xs)
      → in_order cmp xs ≡ ys
  in_order_same xs ys up exact f g = same_lists (in_order cmp xs) ys (in_order_up xs) up (λ z h. f z (in_order_from z xs h)) (λ z h. in_order_to z xs exact (g z h))

  pub in_order_is : (xs ys : List A) → IsPermutation xs ys → IsPermutation ys xs → IsStrictlySortedBy cmp ys → in_order cmp xs ≡ ys
  in_order_is xs ys moved back up =
      in_order_same xs ys up (λ x y h k. ties_same ys up x y (moved_in ys xs back x h) (moved_in ys xs back y k)) (moved_in ys xs back) (moved_in xs ys moved)

  -- ---- sets

  module _ (exact : (x y : A) → cmp x y ≡ Equal → x ≡ y) where
    has_tie : (o : Ordering) (x y : A) → (o ≡ Equal → x ≡ y) → is_eq o ≡ true → x ≡ y
    has_tie Less x y same e = cc
    has_tie Equal x y same e = same refl
    has_tie Greater x y same e = cc

    has_in_step : (b c : Bool) (x y : A) (ys : List A) → (b ≡ true → x ≡ y) → (c ≡ true → In x ys) → (b || c) ≡ true → In x (y ∷ ys)
    has_in_step true c x y ys f g e = inl (f refl)
    has_in_step false c x y ys f g e = inr (g e)

    has_in : (x : A) (ys : List A) → has cmp x ys ≡ true → In x ys
    has_in x [] e = cc
    has_in x (y ∷ ys) e = has_in_step (is_eq (cmp y x)) (has cmp x ys) x y ys (λ t. sym (has_tie (cmp y x) y x (exact y x) t)) (has_in x ys) e

    either_way : (b : Bool) (z : A) (xs ys : List A) → has cmp z xs ≡ b → In z ys → In z (xs ++ filter (λ y. not (has cmp y xs)) ys)
    either_way true z xs ys e h = in_first z xs _ (has_in z xs e)
    either_way false z xs ys e h = in_second z xs _ (in_filtered (λ y. not (has cmp y xs)) z ys (ap not e) h)

    both_to : (z : A) (xs ys : List A) → In z xs ⊎ In z ys → In z (xs ++ filter (λ y. not (has cmp y xs)) ys)
    both_to z xs ys (inl h) = in_first z xs _ h
    both_to z xs ys (inr h) = either_way (has cmp z xs) z xs ys refl h

    both_from : (z : A) (xs ys : List A) → In z xs ⊎ In z (filter (λ y. not (has cmp y xs)) ys) → In z (xs ++ ys)
    both_from z xs ys (inl h) = in_first z xs ys h
    both_from z xs ys (inr h) = in_second z xs ys (in_filter _ z ys h)

    -- the set of both sets' elements
    pub united_is : (xs ys both : List A) → IsSetOf cmp (xs ++ filter (λ y. not (has cmp y xs)) ys) both
        → IsPermutation both (xs ++ filter (λ y. not (has cmp y xs)) ys) → united cmp xs ys ≡ both
    united_is xs ys both set back =
        let all = xs ++ filter (λ y. not (has cmp y xs)) ys in
        in_order_same (xs ++ ys) both set.in_order (λ x y h k. exact x y)
        (λ z h. moved_in both all back z (both_to z xs ys (in_either z xs ys h)))
        (λ z h. both_from z xs ys (in_either z xs _ (moved_in all both set.same_elements z h)))

    -- the union of copies
    pub union_is : (xs ys xs' ys' both : List A) → xs' ≡ xs → ys' ≡ ys → IsSetOf cmp (xs' ++ filter (λ y. not (has cmp y xs')) ys') both → both ≡ united cmp xs ys
    union_is xs ys xs' ys' both e f set =
        sym (united_is xs' ys' both set (IsPermutation-sym _ both set.same_elements)) ∙ ap (λ zs. united cmp zs ys') e ∙ ap (united cmp xs) f

    has_from : (x : A) (ys : List A) → In x ys → has cmp x ys ≡ true
    has_from x [] h = absurd h
    has_from x (y ∷ ys) (inl e) = ap (λ z. is_eq (cmp z x) || has cmp x ys) (sym e) ∙ ap (λ o. is_eq o || has cmp x ys) (tied_itself laws x)
    has_from x (y ∷ ys) (inr h) = rw (has_from x ys h) (or_true (is_eq (cmp y x)))
      where
        or_true : (b : Bool) → (b || true) ≡ true
        or_true true = refl
        or_true false = refl

    alike : (b c : Bool) → (b ≡ true → c ≡ true) → (c ≡ true → b ≡ true) → b ≡ c
    alike true true f g = refl
    alike true false f g = sym (f refl)
    alike false true f g = g refl
    alike false false f g = refl

    only_second : (x : A) (xs ys : List A) → AllByRecursion (λ z. cmp x z ≡ Less) xs → In x xs ⊎ In x ys → In x ys
    only_second x xs ys up (inl h) = absurd (not_below_itself x x refl (at_in (λ z. cmp x z ≡ Less) xs up x h))
    only_second x xs ys up (inr h) = h

    -- an element below all of the first list is in both put in order where the second has it
    has_united : (x : A) (xs ys : List A) → AllByRecursion (λ z. cmp x z ≡ Less) xs → has cmp x (in_order cmp (xs ++ ys)) ≡ has cmp x ys
    has_united x xs ys up = alike (has cmp x (in_order cmp (xs ++ ys))) (has cmp x ys)
        (λ t. has_from x ys (only_second x xs ys up (in_either x xs ys (in_order_from x (xs ++ ys) (has_in x (in_order cmp (xs ++ ys)) t)))))
        (λ t. has_from x (in_order cmp (xs ++ ys)) (in_order_to x (xs ++ ys) (λ v w h k. exact v w) (in_second x xs ys (has_in x ys t))))

    none_tied : (x : A) (ys : List A) (b : Bool) → has cmp x ys ≡ b → AllByRecursion (λ z. cmp x z ≡ Less) ys → has cmp x ys ≡ false
    none_tied x ys true e up = absurd (not_below_itself x x refl (at_in (λ z. cmp x z ≡ Less) ys up x (has_in x ys e)))
    none_tied x ys false e up = e

    module _ (f : A → ℕ) where
      put_sum_step : (o : Ordering) (x y : A) (ys : List A) → cmp x y ≡ o → AllByRecursion (λ w. cmp y w ≡ Less) ys
          → sum_by f (put_in cmp x ys) ≡ cond (has cmp x ys) 0 (f x) + sum_by f ys
          → sum_by f (match_ordering o (x ∷ y ∷ ys) (y ∷ ys) (y ∷ put_in cmp x ys)) ≡ cond (is_eq (cmp y x) || has cmp x ys) 0 (f x) + sum_by f (y ∷ ys)
      put_sum_step Less x y ys e up later =
          let turn : cmp y x ≡ Greater = laws.antisymm y x ∙ ap ordering_reverse e in
          let above : AllByRecursion (λ w. cmp x w ≡ Less) ys = all_in (λ w. cmp x w ≡ Less) ys (λ z h. laws.trans x y z e (at_in (λ w. cmp y w ≡ Less) ys up z h)) in
          sum_by-cons f x (y ∷ ys) ∙ ap (λ b. cond b 0 (f x) + sum_by f (y ∷ ys)) (sym (ap (λ o. is_eq o || has cmp x ys) turn ∙ none_tied x ys (has cmp x ys) refl above))
      put_sum_step Equal x y ys e up later =
          let turn : cmp y x ≡ Equal = laws.antisymm y x ∙ ap ordering_reverse e in
          let tied : ◌≡◌ {A = ℕ} (cond (is_eq (cmp y x) || has cmp x ys) 0 (f x)) 0 = ap (λ o. cond (is_eq o || has cmp x ys) 0 (f x)) turn in
          omega (arith, tied)
      put_sum_step Greater x y ys e up later =
          let turn : cmp y x ≡ Less = laws.antisymm y x ∙ ap ordering_reverse e in
          let same : cond (is_eq (cmp y x) || has cmp x ys) 0 (f x) ≡ cond (has cmp x ys) 0 (f x) = ap (λ o. cond (is_eq o || has cmp x ys) 0 (f x)) turn in
          omega (arith, same, later, sum_by-cons f y ys, sum_by-cons f y (put_in cmp x ys))

      -- an element put into a list in order adds what it has, where none there ties with it
      put_sum : (x : A) (ys : List A) → IsStrictlySortedBy cmp ys → sum_by f (put_in cmp x ys) ≡ cond (has cmp x ys) 0 (f x) + sum_by f ys
      unfolding IsStrictlySortedBy
      put_sum x [] up = omega (arith, sum_by-cons f x [])
      put_sum x (y ∷ ys) up = put_sum_step (cmp x y) x y ys refl up.0 (put_sum x ys up.1)

      filter_sum : (b : Bool) (x : A) (xs : List A) → sum_by f (cond (not b) (x ∷ xs) xs) ≡ cond b 0 (f x) + sum_by f xs
      filter_sum true x xs = omega arith
      filter_sum false x xs = sum_by-cons f x xs

      -- the elements of both sets have what the second has, and those of the first that the second has not
      pub united_sum : (xs ys : List A) → IsStrictlySortedBy cmp xs → IsStrictlySortedBy cmp ys → sum_by f (united cmp xs ys) ≡ sum_by f (filter (λ x. not (has cmp x ys)) xs) + sum_by f ys
      unfolding IsStrictlySortedBy
      united_sum [] ys up vp = let same = in_order_same ys ys vp (λ x y h k. exact x y) (λ z h. h) (λ z h. h) in omega (arith, ap (sum_by f) same)
      united_sum (x ∷ xs) ys up vp =
          let rest = in_order cmp (xs ++ ys) in
          let one : cond (has cmp x rest) 0 (f x) ≡ cond (has cmp x ys) 0 (f x) = ap (λ b. cond b 0 (f x)) (has_united x xs ys up.0) in
          omega (arith, put_sum x rest (in_order_up (xs ++ ys)), one, united_sum xs ys up.1 vp, filter_sum (has cmp x ys) x (filter (λ z. not (has cmp z ys)) xs))

-- ---- the elements of the three kinds of sets

pub texts_exact : (x y : List ℕ) → slice_cmp nat_cmp x y ≡ Equal → x ≡ y
texts_exact x y tie = (bytes_eq-Decides x y).0 (sym (is_eq-slice_cmp x y) ∙ ap is_eq tie)

pub numbers_exact : (x y : ℤ) → int_cmp x y ≡ Equal → x ≡ y
numbers_exact x y tie = int_ranked x y Equal (sym tie)
