-- Lists of entries in the order of their keys.
use Rattle.std.proofs.Common.{◌≡◌, Bool, true, false, List, [], ◌∷◌, ◌++◌, Option, None, Some, All, AllPairs, inl, inr, refl, sym, ap, ◌∙◌, subst, arith}
use Rattle.std.proofs.Common.{Less}
use Rattle.std.specs.List.{cons_option, filter_map, flat_map, list_any, AllByRecursion}
use Rattle.std.specs.List.Sorted.{IsStrictlySortedBy}
use Rattle.std.specs.Ordering.{is_eq, ordering_reverse}
use Rattle.std.specs.Cmp.{IsTotalOrder, tied_itself}
use Rattle.std.specs.BTreeMap.{is_at}
use Rattle.std.specs.Map.{keys_of, lookup}
use Rattle.std.specs.declared.cmp.Ordering.{Ordering}
use Rattle.std.proofs.lemmas.Bool.{or_cases}
use Rattle.std.proofs.lemmas.List.Elements.{All-cons, All-nil}
use Rattle.std.proofs.lemmas.List.Kept.{AllPairs-cons}
use Rattle.std.proofs.lemmas.Map.Keys.{sorted_head, sorted_tail}
use Rattle.std.proofs.lemmas.Map.Entries.{lookup_head, lookup_tail}
use Rattle.index_feed.specs.Feed.{Each}
use Rattle.index_changes.proofs.Basics.{some_is, or_left, or_right}

module _ {X : Type 0} (P : X → Type 0) where
  pub each_append : (xs ys : List X) → Each P xs → Each P ys → Each P (xs ++ ys)
  each_append [] ys a b = b
  each_append (x ∷ xs) ys a b = (a.0, each_append xs ys a.1 b)

  pub all_from_each : (xs : List X) → Each P xs → All P xs
  all_from_each [] h = All-nil P
  all_from_each (x ∷ xs) h = All-cons P x xs h.0 (all_from_each xs h.1)

  -- what holds of each
  pub each_all : ((x : X) → P x) → (xs : List X) → Each P xs
  each_all h [] = tt
  each_all h (x ∷ xs) = (h x, each_all h xs)

module _ {X : Type 0} (P Q T : X → Type 0) (both : (x : X) → P x → Q x → T x) where
  pub each_both : (xs : List X) → Each P xs → Each Q xs → Each T xs
  each_both [] a b = tt
  each_both (x ∷ xs) a b = (both x a.0 b.0, each_both xs a.1 b.1)

-- an element is at most one of a list of options
module _ {X Y : Type 0} (f : X → Option Y) (P : Y → Type 0) where
  pub each_filter_map : (xs : List X) → Each (λ x. (y : Y) → f x ≡ Some y → P y) xs → Each P (filter_map f xs)
  each_filter_map [] h = tt
  each_filter_map (x ∷ xs) h = by_option (f x) refl (each_filter_map xs h.1)
    where
      by_option : (o : Option Y) → f x ≡ o → Each P (filter_map f xs) → Each P (cons_option o (filter_map f xs))
      by_option None e rest = rest
      by_option (Some y) e rest = (h.0 y e, rest)

module _ {X Y : Type 0} (f : X → List Y) (P : Y → Type 0) where
  pub each_flat_map : (xs : List X) → Each (λ x. Each P (f x)) xs → Each P (flat_map f xs)
  each_flat_map [] h = tt
  each_flat_map (x ∷ xs) h = each_append P (f x) (flat_map f xs) h.0 (each_flat_map xs h.1)

-- any two of a list
module _ {X : Type 0} (R : X → X → Type 0) where
  abbrev pub Apart : List X → Type 0
  Apart [] = Unit {0}
  Apart (x ∷ xs) = Each (λ y. R x y) xs × Apart xs

  pub pairs_from_apart : (xs : List X) → Apart xs → AllPairs R xs
  pairs_from_apart [] h = λ i j d lt below. absurd (omega arith)
  pairs_from_apart (x ∷ xs) h = AllPairs-cons R x xs (all_from_each (λ y. R x y) xs h.0) (pairs_from_apart xs h.1)

  pub apart_append : (xs ys : List X) → Apart xs → Apart ys → Each (λ x. Each (λ y. R x y) ys) xs → Apart (xs ++ ys)
  apart_append [] ys a b c = b
  apart_append (x ∷ xs) ys a b c = (each_append (λ y. R x y) xs ys a.0 c.0, apart_append xs ys a.1 b c.1)

-- the keys of entries are as their list says
each_of_keys : {K X : Type 0} (P : K → Type 0) (es : List (K × X)) → AllByRecursion P (keys_of es) → Each (λ (e : K × X). P e.0) es
each_of_keys P [] h = tt
each_of_keys P (e ∷ es) h = (h.0, each_of_keys P es h.1)

module _ {K : Type 0} (cmp : K → K → Ordering) (total : IsTotalOrder cmp) where
  pub at_itself : (k : K) → is_at (cmp k) k ≡ true
  at_itself k = ap is_eq (tied_itself total k)

  -- a greater key is not at a lesser one
  pub not_below : (k q : K) → cmp k q ≡ Less → is_at (cmp q) k ≡ false
  not_below k q e = ap is_eq (total.antisymm q k ∙ ap (λ o. ordering_reverse o) e)

module _ {K X : Type 0} (cmp : K → K → Ordering) where
  -- each key is below those after it
  abbrev pub Ascend : List (K × X) → Type 0
  Ascend [] = Unit {0}
  Ascend (e ∷ es) = Each (λ (f : K × X). cmp e.0 f.0 ≡ Less) es × Ascend es

  pub ascend : (es : List (K × X)) → IsStrictlySortedBy cmp (keys_of es) → Ascend es
  ascend [] s = tt
  ascend (e ∷ es) s =
      (each_of_keys (λ y. cmp e.0 y ≡ Less) es (sorted_head cmp e.0 (keys_of es) s), ascend es (sorted_tail cmp e.0 (keys_of es) s))

  module _ (total : IsTotalOrder cmp) where
    -- what is looked up is what stands there
    pub found : (es : List (K × X)) → Ascend es → Each (λ (e : K × X). lookup (is_at (cmp e.0)) es ≡ Some e.1) es
    found [] a = tt
    found (e ∷ es) a = (
      lookup_head (is_at (cmp e.0)) e es (at_itself cmp total e.0),
      each_both (λ (f : K × X). cmp e.0 f.0 ≡ Less) (λ (f : K × X). lookup (is_at (cmp f.0)) es ≡ Some f.1)
          (λ (f : K × X). lookup (is_at (cmp f.0)) (e ∷ es) ≡ Some f.1)
          (λ f less here. lookup_tail (is_at (cmp f.0)) e es (not_below cmp total e.0 f.0 less) ∙ here) es a.0 (found es a.1),
    )

module _ {Y : Type 0} (test : Y → Bool) where
  any_append_left : (xs ys : List Y) → list_any test xs ≡ true → list_any test (xs ++ ys) ≡ true
  any_append_left [] ys h = absurd (cc)
  any_append_left (x ∷ xs) ys h = elim (or_cases (test x) (list_any test xs) h) [
    | inl a ↦ or_left (test x) (list_any test (xs ++ ys)) a
    | inr b ↦ or_right (test x) (list_any test (xs ++ ys)) (any_append_left xs ys b)
  ]

  any_append_right : (xs ys : List Y) → list_any test ys ≡ true → list_any test (xs ++ ys) ≡ true
  any_append_right [] ys h = h
  any_append_right (x ∷ xs) ys h = or_right (test x) (list_any test (xs ++ ys)) (any_append_right xs ys h)

  module _ {K X : Type 0} (at : K → Bool) where
    -- what is looked up is among what a list makes of its entries
    pub any_flat_map :
        (f : K × X → List Y) (x : X) → ((k : K) → at k ≡ true → list_any test (f (k, x)) ≡ true) → (es : List (K × X))
        → lookup at es ≡ Some x → list_any test (flat_map f es) ≡ true
    any_flat_map f x so [] h = absurd (cc)
    any_flat_map f x so (e ∷ es) h = by_key (at e.0) refl (λ l. any_flat_map f x so es l)
      where
        by_key : (b : Bool) → at e.0 ≡ b → (lookup at es ≡ Some x → list_any test (flat_map f es) ≡ true) → list_any test (f e ++ flat_map f es) ≡ true
        by_key true t rest =
            any_append_left (f e) (flat_map f es)
            (subst (λ y. list_any test (f (e.0, y)) ≡ true) (sym (some_is e.1 x (sym (lookup_head at e es t) ∙ h))) (so e.0 t))
        by_key false t rest = any_append_right (f e) (flat_map f es) (rest (sym (lookup_tail at e es t) ∙ h))

    pub any_filter_map :
        (f : K × X → Option Y) (x : X) (y : (k : K) → Y) → ((k : K) → at k ≡ true → (f (k, x) ≡ Some (y k)) × (test (y k) ≡ true)) → (es : List (K × X))
        → lookup at es ≡ Some x → list_any test (filter_map f es) ≡ true
    any_filter_map f x y so [] h = absurd (cc)
    any_filter_map f x y so (e ∷ es) h = by_key (at e.0) refl (λ l. any_filter_map f x y so es l)
      where
        later : (o : Option Y) → list_any test (filter_map f es) ≡ true → list_any test (cons_option o (filter_map f es)) ≡ true
        later None r = r
        later (Some z) r = or_right (test z) (list_any test (filter_map f es)) r

        by_key : (b : Bool) → at e.0 ≡ b → (lookup at es ≡ Some x → list_any test (filter_map f es) ≡ true) → list_any test (cons_option (f e) (filter_map f es)) ≡ true
        by_key true t rest =
            let here = so e.0 t in
            let one : f e ≡ Some (y e.0) = ap (λ z. f (e.0, z)) (some_is e.1 x (sym (lookup_head at e es t) ∙ h)) ∙ here.0 in
            ap (λ o. list_any test (cons_option o (filter_map f es))) one ∙ or_left (test (y e.0)) (list_any test (filter_map f es)) here.1
        by_key false t rest = later (f e) (rest (sym (lookup_tail at e es t) ∙ h))

-- what holds of each entry holds of the one that is looked up
pub looked :
    {K X : Type 0} (P : K × X → Type 0) (at : K → Bool) (x : X) (es : List (K × X)) → Each P es → lookup at es ≡ Some x
    → (k : K) × (at k ≡ true) × P (k, x)
looked P at x [] all e = absurd (cc)
looked {K} {X} P at x (y ∷ es) all e = by_key (at y.0) refl (λ l. looked P at x es all.1 l)
  where
    by_key : (b : Bool) → at y.0 ≡ b → (lookup at es ≡ Some x → (k : K) × (at k ≡ true) × P (k, x)) → (k : K) × (at k ≡ true) × P (k, x)
    by_key true t rest = (y.0, t, subst (λ v. P (y.0, v)) (some_is y.1 x (sym (lookup_head at y es t) ∙ e)) all.0)
    by_key false t rest = rest (sym (lookup_tail at y es t) ∙ e)
