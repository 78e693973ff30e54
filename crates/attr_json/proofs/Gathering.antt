-- Sets that are made element by element are those that a sort makes.
use Rattle.std.proofs.Common.{◌≡◌, ℕ, ◌+◌, ◌≤◌, cond, List, [], ◌∷◌, Option, Some, None, option_map, option_and_then, Ok, Err, Ordering, Less, Equal, Greater, is_eq, refl, sym, ap, ◌∙◌, subst, arith}
use Rattle.std.specs.Cmp.{IsTotalOrder}
use Rattle.std.specs.Ordering.{match_ordering, ordering_reverse}
use Rattle.std.specs.List.{AllByRecursion, count_by}
use Rattle.std.specs.List.Sorted.{IsStrictlySortedBy}
use Rattle.std.proofs.lemmas.Cmp.{tied_itself}
use Rattle.std.proofs.lemmas.List.Sorted.{sum_by-IsPermutation}
use Rattle.std.proofs.lemmas.List.Sums.{sum_by-cons}
use Rattle.ordered_set.specs.Sets.{IsSetOf, HasRepeat}
use Rattle.attr_value.specs.declared.fault.ValueFault.TheVariants.{DuplicateInSet}
use Rattle.attr_json.specs.declared.fault.JsonFault.TheVariants.{BadSet}
use Rattle.attr_json.specs.Sets.{with_element, in_order, unless_twice, set_of}

-- how often an element is in a list
abbrev pub times : {A : Type 0} → (A → A → Ordering) → A → List A → ℕ
times cmp q xs = count_by (λ y. is_eq (cmp q y)) xs

abbrev pub tick : Ordering → ℕ
tick o = cond (is_eq o) 1 0

tick_less : (o : Ordering) → o ≡ Less → tick o ≡ 0
tick_less Less e = refl
tick_less Equal e = cc
tick_less Greater e = cc

tick_equal : (o : Ordering) → o ≡ Equal → tick o ≡ 1
tick_equal Less e = cc
tick_equal Equal e = refl
tick_equal Greater e = cc

tick_greater : (o : Ordering) → o ≡ Greater → tick o ≡ 0
tick_greater Less e = cc
tick_greater Equal e = cc
tick_greater Greater e = refl

reversed : (o : Ordering) → o ≡ Greater → ordering_reverse o ≡ Less
reversed Less e = cc
reversed Equal e = cc
reversed Greater e = refl

module _ {A : Type 0} {cmp : A → A → Ordering} (laws : IsTotalOrder cmp) where
  counted : (q x : A) (xs : List A) → times cmp q (x ∷ xs) ≡ tick (cmp q x) + times cmp q xs
  counted q x xs = sum_by-cons (λ y. cond (is_eq (cmp q y)) 1 0) x xs

  some_inside : (y : A) (o : Option (List A)) (zs : List A) → option_map (λ ws. y ∷ ws) o ≡ Some zs → (ws : List A) × (o ≡ Some ws) × (y ∷ ws ≡ zs)
  some_inside y None zs e = cc
  some_inside y (Some ws) zs e = (ws, refl, (cc))

  none_inside : (y : A) (o : Option (List A)) → option_map (λ ws. y ∷ ws) o ≡ None → o ≡ None
  none_inside y None e = refl
  none_inside y (Some ws) e = cc

  -- ---- counts

  placed_count : (o : Ordering) (q x y : A) (ys zs : List A) → match_ordering o (Some (x ∷ y ∷ ys)) None (option_map (λ ws. y ∷ ws) (with_element cmp x ys)) ≡ Some zs
      → ((ws : List A) → with_element cmp x ys ≡ Some ws → times cmp q ws ≡ tick (cmp q x) + times cmp q ys)
      → times cmp q zs ≡ tick (cmp q x) + times cmp q (y ∷ ys)
  placed_count Less q x y ys zs e later =
      let same : x ∷ y ∷ ys ≡ zs = cc in
      subst (λ l. times cmp q l ≡ tick (cmp q x) + times cmp q (y ∷ ys)) same (counted q x (y ∷ ys))
  placed_count Equal q x y ys zs e later = cc
  placed_count Greater q x y ys zs e later =
      let s = some_inside y (with_element cmp x ys) zs e in
      let here : times cmp q (y ∷ s.0) ≡ tick (cmp q x) + times cmp q (y ∷ ys) = omega (arith, counted q y s.0, counted q y ys, later s.0 s.1) in
      subst (λ l. times cmp q l ≡ tick (cmp q x) + times cmp q (y ∷ ys)) s.2 here

  with_count : (q x : A) (ys zs : List A) → with_element cmp x ys ≡ Some zs → times cmp q zs ≡ tick (cmp q x) + times cmp q ys
  with_count q x [] zs e =
      let same : x ∷ [] ≡ zs = cc in
      subst (λ l. times cmp q l ≡ tick (cmp q x) + times cmp q []) same (counted q x [])
  with_count q x (y ∷ ys) zs e = placed_count (cmp x y) q x y ys zs e (λ ws f. with_count q x ys ws f)

  -- ---- order

  above_more : (b x : A) (xs : List A) → cmp b x ≡ Less → AllByRecursion (λ z. cmp x z ≡ Less) xs → AllByRecursion (λ z. cmp b z ≡ Less) xs
  above_more b x [] below above = tt
  above_more b x (y ∷ ys) below above = (laws.trans b x y below above.0, above_more b x ys below above.1)

  placed_above : (o : Ordering) (b x y : A) (ys zs : List A) → match_ordering o (Some (x ∷ y ∷ ys)) None (option_map (λ ws. y ∷ ws) (with_element cmp x ys)) ≡ Some zs
      → cmp b x ≡ Less → AllByRecursion (λ z. cmp b z ≡ Less) (y ∷ ys)
      → ((ws : List A) → with_element cmp x ys ≡ Some ws → AllByRecursion (λ z. cmp b z ≡ Less) ws)
      → AllByRecursion (λ z. cmp b z ≡ Less) zs
  placed_above Less b x y ys zs e below above later =
      let same : x ∷ y ∷ ys ≡ zs = cc in
      subst (λ l. AllByRecursion (λ z. cmp b z ≡ Less) l) same (below, above)
  placed_above Equal b x y ys zs e below above later = cc
  placed_above Greater b x y ys zs e below above later =
      let s = some_inside y (with_element cmp x ys) zs e in
      subst (λ l. AllByRecursion (λ z. cmp b z ≡ Less) l) s.2 (above.0, later s.0 s.1)

  with_above : (b x : A) (ys zs : List A) → with_element cmp x ys ≡ Some zs → cmp b x ≡ Less → AllByRecursion (λ z. cmp b z ≡ Less) ys → AllByRecursion (λ z. cmp b z ≡ Less) zs
  with_above b x [] zs e below above =
      let same : x ∷ [] ≡ zs = cc in
      subst (λ l. AllByRecursion (λ z. cmp b z ≡ Less) l) same (below, tt)
  with_above b x (y ∷ ys) zs e below above = placed_above (cmp x y) b x y ys zs e below above (λ ws f. with_above b x ys ws f below above.1)

  placed_sorted : (o : Ordering) (x y : A) (ys zs : List A) → cmp x y ≡ o → match_ordering o (Some (x ∷ y ∷ ys)) None (option_map (λ ws. y ∷ ws) (with_element cmp x ys)) ≡ Some zs
      → AllByRecursion (λ z. cmp y z ≡ Less) ys → IsStrictlySortedBy cmp ys
      → ((ws : List A) → with_element cmp x ys ≡ Some ws → IsStrictlySortedBy cmp ws)
      → IsStrictlySortedBy cmp zs
  unfolding IsStrictlySortedBy
  placed_sorted Less x y ys zs is e above up later =
      let same : x ∷ y ∷ ys ≡ zs = cc in
      subst (λ l. IsStrictlySortedBy cmp l) same ((is, above_more x y ys is above), (above, up))
  placed_sorted Equal x y ys zs is e above up later = cc
  placed_sorted Greater x y ys zs is e above up later =
      let s = some_inside y (with_element cmp x ys) zs e in
      let below : cmp y x ≡ Less = laws.antisymm y x ∙ reversed (cmp x y) is in
      subst (λ l. IsStrictlySortedBy cmp l) s.2 (with_above y x ys s.0 s.1 below above, later s.0 s.1)

  with_sorted : (x : A) (ys zs : List A) → with_element cmp x ys ≡ Some zs → IsStrictlySortedBy cmp ys → IsStrictlySortedBy cmp zs
  unfolding IsStrictlySortedBy
  with_sorted x [] zs e up =
      let same : x ∷ [] ≡ zs = cc in
      subst (λ l. IsStrictlySortedBy cmp l) same (tt, tt)
  with_sorted x (y ∷ ys) zs e up = placed_sorted (cmp x y) x y ys zs refl e up.0 up.1 (λ ws f. with_sorted x ys ws f up.1)

  -- ---- repeats

  placed_none : (o : Ordering) (x y : A) (ys : List A) → cmp x y ≡ o → match_ordering o (Some (x ∷ y ∷ ys)) None (option_map (λ ws. y ∷ ws) (with_element cmp x ys)) ≡ None
      → (with_element cmp x ys ≡ None → 1 ≤ times cmp x ys) → 1 ≤ times cmp x (y ∷ ys)
  placed_none Less x y ys is e later = cc
  placed_none Equal x y ys is e later = omega (arith, counted x y ys, tick_equal _ is)
  placed_none Greater x y ys is e later = omega (arith, counted x y ys, later (none_inside y (with_element cmp x ys) e))

  with_none : (x : A) (ys : List A) → with_element cmp x ys ≡ None → 1 ≤ times cmp x ys
  with_none x [] e = cc
  with_none x (y ∷ ys) e = placed_none (cmp x y) x y ys refl e (with_none x ys)

  -- what is in_order is in order, and has each element as often
  in_order_step : (x : A) (xs s : List A) (o : Option (List A)) → in_order cmp xs ≡ o → option_and_then (with_element cmp x) o ≡ Some s
      → (t : List A) × (in_order cmp xs ≡ Some t) × (with_element cmp x t ≡ Some s)
  in_order_step x xs s None is e = cc
  in_order_step x xs s (Some t) is e = (t, is, e)

  pub in_order_sorted : (xs s : List A) → in_order cmp xs ≡ Some s → IsStrictlySortedBy cmp s
  unfolding IsStrictlySortedBy
  in_order_sorted [] s e =
      let same : [] ≡ s = cc in
      subst (λ l. IsStrictlySortedBy cmp l) same tt
  in_order_sorted (x ∷ xs) s e =
      let t = in_order_step x xs s (in_order cmp xs) refl e in
      with_sorted x t.0 s t.2 (in_order_sorted xs t.0 t.1)

  pub in_order_count : (q : A) (xs s : List A) → in_order cmp xs ≡ Some s → times cmp q s ≡ times cmp q xs
  in_order_count q [] s e =
      let same : [] ≡ s = cc in
      subst (λ l. times cmp q l ≡ times cmp q []) same refl
  in_order_count q (x ∷ xs) s e =
      let t = in_order_step x xs s (in_order cmp xs) refl e in
      omega (arith, with_count q x t.0 s t.2, in_order_count q xs t.0 t.1, counted q x xs)

  in_order_repeat : (x : A) (xs : List A) (o : Option (List A)) → in_order cmp xs ≡ o → option_and_then (with_element cmp x) o ≡ None
      → (in_order cmp xs ≡ None → HasRepeat cmp xs) → HasRepeat cmp (x ∷ xs)
  in_order_repeat x xs None is e later =
      let r = later is in
      (r.0, omega (arith, counted r.0 x xs, r.1))
  in_order_repeat x xs (Some t) is e later =
      (x, omega (arith, counted x x xs, tick_equal _ (tied_itself laws x), in_order_count x xs t is, with_none x t e))

  pub in_order_none : (xs : List A) → in_order cmp xs ≡ None → HasRepeat cmp xs
  in_order_none [] e = cc
  in_order_none (x ∷ xs) e = in_order_repeat x xs (in_order cmp xs) refl e (in_order_none xs)

  -- ---- a set is told by its counts

  none_below : (q : A) (xs : List A) → AllByRecursion (λ z. cmp q z ≡ Less) xs → times cmp q xs ≡ 0
  none_below q [] above = refl
  none_below q (x ∷ xs) above = omega (arith, counted q x xs, tick_less _ above.0, none_below q xs above.1)

  itself : (x : A) (xs : List A) → 1 ≤ times cmp x (x ∷ xs)
  itself x xs = omega (arith, counted x x xs, tick_equal _ (tied_itself laws x))

  same_above : (x y : A) (ys : List A) → cmp x y ≡ Equal → AllByRecursion (λ z. cmp y z ≡ Less) ys → AllByRecursion (λ z. cmp x z ≡ Less) ys
  same_above x y [] is above = tt
  same_above x y (z ∷ ys) is above = (laws.congr x y z is ∙ above.0, same_above x y ys is above.1)

  once_at : (o : Ordering) (x y : A) (ys : List A) → cmp x y ≡ o → AllByRecursion (λ z. cmp y z ≡ Less) ys → times cmp x ys ≤ 1 → times cmp x (y ∷ ys) ≤ 1
  once_at Less x y ys is above rest = omega (arith, counted x y ys, tick_less _ is, rest)
  once_at Equal x y ys is above rest = omega (arith, counted x y ys, tick_equal _ is, none_below x ys (same_above x y ys is above))
  once_at Greater x y ys is above rest = omega (arith, counted x y ys, tick_greater _ is, rest)

  pub once : (x : A) (xs : List A) → IsStrictlySortedBy cmp xs → times cmp x xs ≤ 1
  unfolding IsStrictlySortedBy
  once x [] up = omega arith
  once x (y ∷ ys) up = once_at (cmp x y) x y ys refl up.0 (once x ys up.1)

  -- two sets in order with the same counts are one
  module _ (alike : (x y : A) → cmp x y ≡ Equal → x ≡ y) where
    heads : (o : Ordering) (x y : A) (xs ys : List A) → cmp x y ≡ o → AllByRecursion (λ z. cmp x z ≡ Less) xs → AllByRecursion (λ z. cmp y z ≡ Less) ys
        → ((q : A) → times cmp q (x ∷ xs) ≡ times cmp q (y ∷ ys)) → cmp x y ≡ Equal
    heads Less x y xs ys is above over same =
        absurd (omega (arith, same x, itself x xs, counted x y ys, tick_less _ is, none_below x ys (above_more x y ys is over)))
    heads Equal x y xs ys is above over same = is
    heads Greater x y xs ys is above over same =
        let below : cmp y x ≡ Less = laws.antisymm y x ∙ reversed (cmp x y) is in
        absurd (omega (arith, same y, itself y ys, counted y x xs, tick_less _ below, none_below y xs (above_more y x xs below above)))

    pub one_set : (xs ys : List A) → IsStrictlySortedBy cmp xs → IsStrictlySortedBy cmp ys → ((q : A) → times cmp q xs ≡ times cmp q ys) → xs ≡ ys
    unfolding IsStrictlySortedBy
    one_set [] [] up over same = refl
    one_set [] (y ∷ ys) up over same = absurd (omega (arith, same y, itself y ys))
    one_set (x ∷ xs) [] up over same = absurd (omega (arith, same x, itself x xs))
    one_set (x ∷ xs) (y ∷ ys) up over same =
        let first : x ≡ y = alike x y (heads (cmp x y) x y xs ys refl up.0 over.0 same) in
        let rest : (q : A) → times cmp q xs ≡ times cmp q ys = λ q. omega (arith, same q, counted q x xs, counted q y ys, ap (λ z. tick (cmp q z)) first) in
        ap (λ z. z ∷ xs) first ∙ ap (λ zs. y ∷ zs) (one_set xs ys up.1 over.1 rest)

    set_at : (xs set : List A) (o : Option (List A)) → in_order cmp xs ≡ o → IsSetOf cmp xs set → unless_twice o ≡ Ok set
    set_at xs set None is s =
        let twice = in_order_none xs is in
        absurd (omega (arith, twice.1, once twice.0 set s.in_order, sum_by-IsPermutation (λ y. cond (is_eq (cmp twice.0 y)) 1 0) xs set s.same_elements))
    set_at xs set (Some t) is s =
        ap (λ l. Ok l) (one_set t set (in_order_sorted xs t is) s.in_order
        (λ q. in_order_count q xs t is ∙ sym (sum_by-IsPermutation (λ y. cond (is_eq (cmp q y)) 1 0) xs set s.same_elements)))

    -- a set that a sort made
    pub set_is : (xs set : List A) → (xs ≡ [] → ⊥) → IsSetOf cmp xs set → set_of cmp xs ≡ Ok set
    set_is [] set some s = absurd (some refl)
    set_is (x ∷ xs) set some s = set_at (x ∷ xs) set (in_order cmp (x ∷ xs)) refl s

  repeat_at : (xs : List A) (o : Option (List A)) → in_order cmp xs ≡ o → HasRepeat cmp xs → unless_twice o ≡ Err (BadSet DuplicateInSet)
  repeat_at xs None is twice = refl
  repeat_at xs (Some t) is twice =
      absurd (omega (arith, twice.1, once twice.0 t (in_order_sorted xs t is), in_order_count twice.0 xs t is))

  pub repeat_is : (xs : List A) → HasRepeat cmp xs → set_of cmp xs ≡ Err (BadSet DuplicateInSet)
  repeat_is [] twice = absurd (omega (arith, twice.1))
  repeat_is (x ∷ xs) twice = repeat_at (x ∷ xs) (in_order cmp (x ∷ xs)) refl twice
