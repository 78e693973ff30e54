-- Lists in the order of their keys, by what is found in them.
use Rattle.std.proofs.Common.{◌≡◌, inl, inr, ◌||◌, ℕ, Bool, true, false, Less, Equal, Greater, nat_eq, ◌&&◌, if◌then◌else◌, List, [], ◌∷◌, map, Option, None, Some, is_some, refl, sym, ap, ◌∙◌, subst}
use Rattle.std.specs.Prelude.{T}
use Rattle.std.specs.List.{AllByRecursion, cons_option, filter_map, list_any}
use Rattle.std.specs.List.Sorted.{IsStrictlySortedBy}
use Rattle.std.specs.Cmp.{IsTotalOrder, tied_itself}
use Rattle.std.specs.FinMap.Entries.{below_all, find, is_sorted}
use Rattle.std.specs.Map.{lookup}
use Rattle.std.specs.BTreeMap.{is_at}
use Rattle.std.specs.Option.{option_map}
use Rattle.std.specs.Ordering.{is_eq, is_lt}
use Rattle.std.specs.declared.cmp.Ordering.{Ordering}
use Rattle.std.proofs.lemmas.Bool.{cases_Bool, cond-false, cond-true, eq-eqb, eqb-true, or_cases}
use Rattle.index_feed.specs.Feed.{Each, Indexed, IsLawful, at_keys}
use Rattle.index_feed.proofs.Kept.{true_false}
use Rattle.partition.specs.Listed.{AreAllOf}

both : (a b : Bool) → T a → T b → T (a && b)
both true b p q = q
both false b p q = p

or_false : (a b : Bool) → (a || b) ≡ false → b ≡ false
or_false true b e = absurd (cc)
or_false false b e = e

equal : (o : Ordering) → is_eq o ≡ true → o ≡ Equal
equal Less e = absurd (cc)
equal Equal e = refl
equal Greater e = absurd (cc)

module _ {K V : Type 0} where
  -- what stands at some things, each under its key
  abbrev pub told : {X : Type 0} → (X → K) → (X → Option V) → List X → List (K × V)
  told key val xs = filter_map (λ x. option_map (λ v. (key x, v)) (val x)) xs

  -- what stands at the first that has the key
  abbrev pub picked : {X : Type 0} → (K → K → Ordering) → (X → K) → (X → Option V) → K → List X → Option V
  picked cmp key val q [] = None
  picked cmp key val q (x ∷ xs) = if is_at (cmp q) (key x) then val x else picked cmp key val q xs

module _ {K V X : Type 0} {cmp : K → K → Ordering} (total : IsTotalOrder cmp) (exact : (x y : K) → cmp x y ≡ Equal → x ≡ y)
    (key : X → K) (val : X → Option V) where
  below : (k : K) (xs : List X) → AllByRecursion (λ y. cmp k y ≡ Less) (map key xs) → T (below_all cmp k (told key val xs))
  below k [] all = tt
  below k (x ∷ xs) all = by_row (val x) (below k xs all.1)
    where
      by_row : (o : Option V) → T (below_all cmp k (told key val xs)) → T (below_all cmp k (cons_option (option_map (λ v. (key x, v)) o) (told key val xs)))
      by_row None rest = rest
      by_row (Some v) rest = both (is_lt (cmp k (key x))) (below_all cmp k (told key val xs)) (subst (λ o. T (is_lt o)) (sym all.0) tt) rest

  -- what stands at things in order is in order
  pub told_sorted : (xs : List X) → IsStrictlySortedBy cmp (map key xs) → T (is_sorted cmp (told key val xs))
  unfolding IsStrictlySortedBy
  told_sorted [] rise = tt
  told_sorted (x ∷ xs) rise = by_row (val x) (below (key x) xs rise.0) (told_sorted xs rise.1)
    where
      by_row : (o : Option V) → T (below_all cmp (key x) (told key val xs)) → T (is_sorted cmp (told key val xs))
          → T (is_sorted cmp (cons_option (option_map (λ v. (key x, v)) o) (told key val xs)))
      by_row None low rest = rest
      by_row (Some v) low rest = both (below_all cmp (key x) (told key val xs)) (is_sorted cmp (told key val xs)) low rest

  -- behind the thing of a key no other has it
  none_behind : (q k : K) (xs : List X) → is_at (cmp q) k ≡ true → AllByRecursion (λ y. cmp k y ≡ Less) (map key xs) → picked cmp key val q xs ≡ None
  none_behind q k [] at all = refl
  none_behind q k (x ∷ xs) at all =
      let is = exact q k (equal (cmp q k) at) in
      cond-false (is_at (cmp q) (key x)) (val x) (picked cmp key val q xs) (ap (λ z. is_eq (cmp z (key x))) is ∙ ap is_eq all.0)
      ∙ none_behind q k xs at all.1

  -- and what is found there is what stands at the key
  pub told_found : (q : K) (xs : List X) → IsStrictlySortedBy cmp (map key xs) → find cmp q (told key val xs) ≡ picked cmp key val q xs
  unfolding IsStrictlySortedBy
  told_found q [] rise = refl
  told_found q (x ∷ xs) rise = by_row (val x) (told_found q xs rise.1)
    where
      by_row : (o : Option V) → find cmp q (told key val xs) ≡ picked cmp key val q xs
          → find cmp q (cons_option (option_map (λ v. (key x, v)) o) (told key val xs)) ≡ (if is_at (cmp q) (key x) then o else picked cmp key val q xs)
      by_row (Some v) rest = ap (λ o. if is_at (cmp q) (key x) then Some v else o) rest
      by_row None rest = rest ∙ elim (cases_Bool (is_at (cmp q) (key x))) [
        | inl at ↦ none_behind q (key x) xs at rise.0 ∙ sym (cond-true (is_at (cmp q) (key x)) None (picked cmp key val q xs) at)
        | inr apart ↦ sym (cond-false (is_at (cmp q) (key x)) None (picked cmp key val q xs) apart)
      ]

module _ {K V : Type 0} (cmp : K → K → Ordering) where
  -- in a map's entries that is what the key finds
  pub find_is : (q : K) (es : List (K × V)) → find cmp q es ≡ lookup (is_at (cmp q)) es
  find_is q [] = refl
  find_is q (e ∷ es) = ap (λ o. if is_at (cmp q) e.0 then Some e.1 else o) (find_is q es)

  pub picked_is : {X : Type 0} (f : Option X → Option V) → f None ≡ None → (q : K) (es : List (K × X))
      → picked cmp (λ e. e.0) (λ e. f (Some e.1)) q es ≡ f (lookup (is_at (cmp q)) es)
  picked_is f none q [] = sym none
  picked_is f none q (e ∷ es) = elim (cases_Bool (is_at (cmp q) e.0)) [
    | inl at ↦ cond-true (is_at (cmp q) e.0) (f (Some e.1)) _ at ∙ sym (ap f (cond-true (is_at (cmp q) e.0) (Some e.1) (lookup (is_at (cmp q)) es) at))
    | inr apart ↦
        cond-false (is_at (cmp q) e.0) (f (Some e.1)) _ apart ∙ picked_is f none q es
        ∙ sym (ap f (cond-false (is_at (cmp q) e.0) (Some e.1) (lookup (is_at (cmp q)) es) apart))
  ]

map_same : {X : Type 0} (xs : List X) → map (λ x. x) xs ≡ xs
map_same [] = refl
map_same (x ∷ xs) = ap (λ ys. x ∷ ys) (map_same xs)

module _ {K V C : Type 0} (I : Indexed K V C) (law : IsLawful I) (row : K → Option V) where
  exactly : (x y : K) → I.cmp x y ≡ Equal → x ≡ y
  exactly x y e = law.exact x y (law.one x y ∙ ap is_eq e)

  at_itself : (k q : K) → I.same k q ≡ true → is_at (I.cmp q) k ≡ true
  at_itself k q one = ap (λ z. is_eq (I.cmp q z)) (law.exact k q one) ∙ ap is_eq (tied_itself law.ordered q)

  is_same : (k q : K) → is_at (I.cmp q) k ≡ true → I.same k q ≡ true
  is_same k q at = ap (λ z. I.same z q) (sym (exactly q k (equal (I.cmp q k) at))) ∙ law.itself q

  picked_listed : (q : K) (ks : List K) → list_any (λ x. I.same x q) ks ≡ true → picked I.cmp (λ k. k) row q ks ≡ row q
  picked_listed q [] none = absurd (cc)
  picked_listed q (k ∷ ks) listed = elim (cases_Bool (is_at (I.cmp q) k)) [
    | inl at ↦ cond-true (is_at (I.cmp q) k) (row k) _ at ∙ ap row (sym (exactly q k (equal (I.cmp q k) at)))
    | inr apart ↦ cond-false (is_at (I.cmp q) k) (row k) (picked I.cmp (λ k. k) row q ks) apart ∙ elim (or_cases (I.same k q) (list_any (λ x. I.same x q) ks) listed) [
      | inl one ↦ true_false (is_at (I.cmp q) k) (at_itself k q one) apart
      | inr later ↦ picked_listed q ks later
    ]
  ]

  picked_other : (q : K) (ks : List K) → list_any (λ x. I.same x q) ks ≡ false → picked I.cmp (λ k. k) row q ks ≡ None
  picked_other q [] none = refl
  picked_other q (k ∷ ks) none = elim (cases_Bool (is_at (I.cmp q) k)) [
    | inl at ↦ true_false (list_any (λ x. I.same x q) (k ∷ ks)) (ap (λ b. b || list_any (λ x. I.same x q) ks) (is_same k q at)) none
    | inr apart ↦ cond-false (is_at (I.cmp q) k) (row k) _ apart ∙ picked_other q ks (or_false (I.same k q) (list_any (λ x. I.same x q) ks) none)
  ]

  at_home : (i : ℕ) (q : K) (ks : List K) → Each (λ k. I.cell_of k ≡ i) ks → list_any (λ x. I.same x q) ks ≡ true → I.cell_of q ≡ i
  at_home i q [] homes none = absurd (cc)
  at_home i q (k ∷ ks) homes listed = elim (or_cases (I.same k q) (list_any (λ x. I.same x q) ks) listed) [
    | inl one ↦ ap I.cell_of (sym (law.exact k q one)) ∙ homes.0
    | inr later ↦ at_home i q ks homes.1 later
  ]

  module _ (i : ℕ) (ks : List K) (are : AreAllOf I i row ks) where
    -- what stands at all keys of a cell is in order, and each key finds what stands at it
    pub listed_sorted : T (is_sorted I.cmp (at_keys I row ks))
    listed_sorted = told_sorted law.ordered exactly (λ k. k) row ks (subst (IsStrictlySortedBy I.cmp) (sym (map_same ks)) are.rise)

    found_at_home : (q : K) → I.cell_of q ≡ i → picked I.cmp (λ k. k) row q ks ≡ row q
    found_at_home q home = elim (cases_Bool (list_any (λ x. I.same x q) ks)) [
      | inl listed ↦ picked_listed q ks listed
      | inr other ↦ picked_other q ks other ∙ by_row (row q) refl other
    ]
      where
        by_row : (o : Option V) → row q ≡ o → list_any (λ x. I.same x q) ks ≡ false → None ≡ row q
        by_row None is other = sym is
        by_row (Some v) is other = true_false (list_any (λ x. I.same x q) ks) (are.all q home (ap (λ o. is_some o) is)) other

    found_away : (q : K) → nat_eq (I.cell_of q) i ≡ false → picked I.cmp (λ k. k) row q ks ≡ None
    found_away q away = elim (cases_Bool (list_any (λ x. I.same x q) ks)) [
      | inl listed ↦ true_false (nat_eq (I.cell_of q) i) (eq-eqb (I.cell_of q) i (at_home i q ks are.homes listed)) away
      | inr other ↦ picked_other q ks other
    ]

    pub listed_found : (q : K) → find I.cmp q (at_keys I row ks) ≡ (if nat_eq (I.cell_of q) i then row q else None)
    listed_found q =
        told_found law.ordered exactly (λ k. k) row q ks (subst (IsStrictlySortedBy I.cmp) (sym (map_same ks)) are.rise)
        ∙ elim (cases_Bool (nat_eq (I.cell_of q) i)) [
          | inl home ↦ found_at_home q (eqb-true (I.cell_of q) i home) ∙ sym (cond-true (nat_eq (I.cell_of q) i) (row q) None home)
          | inr away ↦ found_away q away ∙ sym (cond-false (nat_eq (I.cell_of q) i) (row q) None away)
        ]
