-- A list in the order of numbers is its parts of one number each, one after the other.
use Rattle.std.proofs.Common.{◌≡◌, inl, inr, ℕ, ◌<◌, ◌≤◌, nat_eq, nat_lt, Bool, true, false, if◌then◌else◌, filter, map, List, [], ◌∷◌, ◌++◌, Option, None, Some, is_some, refl, sym, ap, ◌∙◌, subst, arith}
use Rattle.std.proofs.Common.{Less, Equal, Greater}
use Rattle.std.specs.List.{flat_map}
use Rattle.std.specs.Ordering.{is_eq, nat_cmp}
use Rattle.std.specs.BTreeMap.{is_at}
use Rattle.std.specs.Map.{lookup}
use Rattle.std.proofs.lemmas.Bool.{cases_Bool, cond_both, eqb-true, eqb-false, le-leb, lt-leb, ltb-true}
use Rattle.std.proofs.lemmas.Map.Entries.{lookup_tail}
use Rattle.index_feed.specs.Feed.{Each}
use Rattle.index_feed.proofs.Overlays.{each_weaker}
use Rattle.txn_core.specs.Legal.{in_order_of, placed_by}
use Rattle.partition.proofs.Lists.{Ascend, each_append, each_flat_map, looked}

pub less_is : (x y : ℕ) → nat_cmp x y ≡ Less → x < y
less_is x y e = by_less (nat_lt x y) refl (nat_eq x y) e
  where
    by_less : (b : Bool) → nat_lt x y ≡ b → (c : Bool) → (if b then Less else (if c then Equal else Greater)) ≡ Less → x < y
    by_less true t c h = ltb-true x y t
    by_less false t true h = absurd (cc)
    by_less false t false h = absurd (cc)

pub equal_is : (x y : ℕ) → is_at (nat_cmp x) y ≡ true → x ≡ y
equal_is x y e = by_less (nat_lt x y) (nat_eq x y) refl e
  where
    by_less : (b : Bool) (c : Bool) → nat_eq x y ≡ c → is_eq (if b then Less else (if c then Equal else Greater)) ≡ true → x ≡ y
    by_less true c t h = absurd (cc)
    by_less false true t h = eqb-true x y t
    by_less false false t h = absurd (cc)

module _ {X : Type 0} where
  pub each_filter : (P : X → Type 0) (q : X → Bool) (xs : List X) → Each P xs → Each P (filter q xs)
  each_filter P q [] all = tt
  each_filter P q (x ∷ xs) all = cond_both (q x) (x ∷ filter q xs) (filter q xs) (λ ys. Each P ys) (λ _. (all.0, each_filter P q xs all.1)) (λ _. each_filter P q xs all.1)

  pub filter_swap : (p q : X → Bool) (xs : List X) → filter p (filter q xs) ≡ filter q (filter p xs)
  filter_swap p q [] = refl
  filter_swap p q (x ∷ xs) = by_tests (p x) refl (q x) refl (filter_swap p q xs)
    where
      by_tests : (a : Bool) → p x ≡ a → (b : Bool) → q x ≡ b → filter p (filter q xs) ≡ filter q (filter p xs)
          → filter p (if b then x ∷ filter q xs else filter q xs) ≡ filter q (if a then x ∷ filter p xs else filter p xs)
      by_tests true s true t rest = ap (λ c. if c then x ∷ filter p (filter q xs) else filter p (filter q xs)) s ∙ ap (λ ys. x ∷ ys) rest ∙ sym (ap (λ c. if c then x ∷ filter q (filter p xs) else filter q (filter p xs)) t)
      by_tests true s false t rest = rest ∙ sym (ap (λ c. if c then x ∷ filter q (filter p xs) else filter q (filter p xs)) t)
      by_tests false s true t rest = ap (λ c. if c then x ∷ filter p (filter q xs) else filter p (filter q xs)) s ∙ rest
      by_tests false s false t rest = rest

module _ {X Y : Type 0} where
  map_append : (f : X → Y) (xs ys : List X) → map f (xs ++ ys) ≡ map f xs ++ map f ys
  map_append f [] ys = refl
  map_append f (x ∷ xs) ys = ap (λ zs. f x ∷ zs) (map_append f xs ys)

  pub map_flat : {Z : Type 0} (f : X → Y) (g : Z → List X) (zs : List Z) → map f (flat_map g zs) ≡ flat_map (λ z. map f (g z)) zs
  map_flat f g [] = refl
  map_flat f g (z ∷ zs) = map_append f (g z) (flat_map g zs) ∙ ap (λ ys. map f (g z) ++ ys) (map_flat f g zs)

  pub flat_same : (f g : X → List Y) (xs : List X) → Each (λ x. f x ≡ g x) xs → flat_map f xs ≡ flat_map g xs
  flat_same f g [] all = refl
  flat_same f g (x ∷ xs) all = λ j. all.0 j ++ flat_same f g xs all.1 j

module _ {X : Type 0} (number : X → ℕ) where
  placed_before : (x : X) (ys : List X) → Each (λ y. number x ≤ number y) ys → placed_by number x ys ≡ x ∷ ys
  placed_before x [] all = refl
  placed_before x (y ∷ ys) all = ap (λ b. if b then x ∷ (y ∷ ys) else y ∷ placed_by number x ys) (le-leb (number x) (number y) all.0)

  placed_behind : (x : X) (ys zs : List X) → Each (λ y. number y < number x) ys → placed_by number x (ys ++ zs) ≡ ys ++ placed_by number x zs
  placed_behind x [] zs all = refl
  placed_behind x (y ∷ ys) zs all =
      ap (λ b. if b then x ∷ (y ∷ (ys ++ zs)) else y ∷ placed_by number x (ys ++ zs)) (lt-leb (number x) (number y) all.0)
      ∙ ap (λ rest. y ∷ rest) (placed_behind x ys zs all.1)

  abbrev pub of_number : ℕ → List X → List X
  of_number u xs = filter (λ x. nat_eq (number x) u) xs

  each_of : (u : ℕ) (xs : List X) → Each (λ x. number x ≡ u) (of_number u xs)
  each_of u [] = tt
  each_of u (x ∷ xs) =
      cond_both (nat_eq (number x) u) (x ∷ of_number u xs) (of_number u xs) (λ ys. Each (λ y. number y ≡ u) ys)
      (λ is. (eqb-true (number x) u is, each_of u xs)) (λ _. each_of u xs)

module _ {X Y : Type 0} (number : X → ℕ) where
  abbrev pub grouped : List X → List (ℕ × Y) → List X
  grouped xs es = flat_map (λ e. of_number number e.0 xs) es

  above : (u : ℕ) (xs : List X) (es : List (ℕ × Y)) → Each (λ (e : ℕ × Y). nat_cmp u e.0 ≡ Less) es → Each (λ x. u < number x) (grouped xs es)
  above u xs es less =
      each_flat_map (λ (e : ℕ × Y). of_number number e.0 xs) (λ x. u < number x) es
      (each_weaker (λ (e : ℕ × Y). nat_cmp u e.0 ≡ Less) (λ (e : ℕ × Y). Each (λ x. u < number x) (of_number number e.0 xs)) es
      (λ e is. each_weaker (λ x. number x ≡ e.0) (λ x. u < number x) (of_number number e.0 xs) (λ x its. let lt = less_is u e.0 is in omega arith) (each_of number e.0 xs)) less)

  none_more : (x : X) (xs : List X) (es : List (ℕ × Y)) → Each (λ (e : ℕ × Y). nat_cmp (number x) e.0 ≡ Less) es → grouped (x ∷ xs) es ≡ grouped xs es
  none_more x xs [] less = refl
  none_more x xs (e ∷ es) less =
      λ j. (if apart j then x ∷ of_number number e.0 xs else of_number number e.0 xs) ++ none_more x xs es less.1 j
    where
      apart : nat_eq (number x) e.0 ≡ false
      apart = elim (cases_Bool (nat_eq (number x) e.0)) [
        | inl is ↦ (let same = eqb-true (number x) e.0 is in let lt = less_is (number x) e.0 less.0 in absurd (omega arith))
        | inr is ↦ is
      ]

  placed_among : (x : X) (xs : List X) (es : List (ℕ × Y)) → Ascend nat_cmp es → is_some (lookup (is_at (nat_cmp (number x))) es) ≡ true
      → placed_by number x (grouped xs es) ≡ grouped (x ∷ xs) es
  placed_among x xs [] rise there = absurd (cc)
  placed_among x xs (e ∷ es) rise there = by_number (nat_eq (number x) e.0) refl (λ t. placed_among x xs es rise.1 t)
    where
      tail : nat_eq (number x) e.0 ≡ false → is_at (nat_cmp (number x)) e.0 ≡ false
      tail apart = elim (cases_Bool (is_at (nat_cmp (number x)) e.0)) [
        | inl at ↦ absurd (eqb-false (number x) e.0 apart (equal_is (number x) e.0 at))
        | inr not_at ↦ not_at
      ]

      above_head : (o : Option Y) → lookup (is_at (nat_cmp (number x))) es ≡ o → is_some o ≡ true → e.0 < number x
      above_head None is some = absurd (cc)
      above_head (Some y) is some =
          let l = looked (λ (f : ℕ × Y). nat_cmp e.0 f.0 ≡ Less) (is_at (nat_cmp (number x))) y es rise.0 is in
          let lt = less_is e.0 l.0 l.2 in
          let same = equal_is (number x) l.0 l.1 in
          omega arith

      by_number : (b : Bool) → nat_eq (number x) e.0 ≡ b
          → (is_some (lookup (is_at (nat_cmp (number x))) es) ≡ true → placed_by number x (grouped xs es) ≡ grouped (x ∷ xs) es)
          → placed_by number x (of_number number e.0 xs ++ grouped xs es) ≡ (if b then x ∷ of_number number e.0 xs else of_number number e.0 xs) ++ grouped (x ∷ xs) es
      by_number true is later =
          let same = eqb-true (number x) e.0 is in
          let up : Each (λ (f : ℕ × Y). nat_cmp (number x) f.0 ≡ Less) es = subst (λ u. Each (λ (f : ℕ × Y). nat_cmp u f.0 ≡ Less) es) (sym same) rise.0 in
          placed_before number x (of_number number e.0 xs ++ grouped xs es)
          (each_append (λ y. number x ≤ number y) (of_number number e.0 xs) (grouped xs es)
          (each_weaker (λ y. number y ≡ e.0) (λ y. number x ≤ number y) (of_number number e.0 xs) (λ y its. omega arith) (each_of number e.0 xs))
          (each_weaker (λ y. number x < number y) (λ y. number x ≤ number y) (grouped xs es) (λ y lt. omega arith) (above (number x) xs es up)))
          ∙ ap (λ ys. x ∷ (of_number number e.0 xs ++ ys)) (sym (none_more x xs es up))
      by_number false is later =
          let there' = ap (λ o. is_some o) (sym (lookup_tail (is_at (nat_cmp (number x))) e es (tail is))) ∙ there in
          let lt = above_head (lookup (is_at (nat_cmp (number x))) es) refl there' in
          placed_behind number x (of_number number e.0 xs) (grouped xs es)
          (each_weaker (λ y. number y ≡ e.0) (λ y. number y < number x) (of_number number e.0 xs) (λ y its. omega arith) (each_of number e.0 xs))
          ∙ ap (λ ys. of_number number e.0 xs ++ ys) (later there')

  no_groups : (es : List (ℕ × Y)) → grouped [] es ≡ []
  no_groups [] = refl
  no_groups (e ∷ es) = no_groups es

  pub in_groups : (xs : List X) (es : List (ℕ × Y)) → Ascend nat_cmp es → Each (λ x. is_some (lookup (is_at (nat_cmp (number x))) es) ≡ true) xs
      → in_order_of number xs ≡ grouped xs es
  in_groups [] es rise all = sym (no_groups es)
  in_groups (x ∷ xs) es rise all = ap (λ ys. placed_by number x ys) (in_groups xs es rise all.1) ∙ placed_among x xs es rise all.0
