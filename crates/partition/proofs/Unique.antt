-- Entries in the order of their keys are one list where they are looked up alike.
use Rattle.std.proofs.Common.{◌≡◌, ◌∷◌, Bool, true, false, List, [], Option, None, Some, option_map, if◌then◌else◌, refl, sym, ap, ◌∙◌, subst}
use Rattle.std.proofs.Common.{Less, Equal, Greater}
use Rattle.std.specs.List.{cons_option, filter, filter_map}
use Rattle.std.specs.Ordering.{is_eq, ordering_reverse}
use Rattle.std.specs.Cmp.{IsTotalOrder}
use Rattle.std.specs.BTreeMap.{is_at}
use Rattle.std.specs.Map.{lookup}
use Rattle.std.specs.declared.cmp.Ordering.{Ordering}
use Rattle.std.proofs.lemmas.Map.Entries.{lookup_head, lookup_tail}
use Rattle.index_feed.specs.Feed.{Each}
use Rattle.index_feed.proofs.Overlays.{each_weaker}
use Rattle.item_store.specs.declared.slot.Committed.{Committed}
use Rattle.item_store.specs.declared.slot.Slot.{Slot}
use Rattle.item_store.specs.Slots.{item_of, row_of}
use Rattle.index_changes.proofs.Basics.{some_is}
use Rattle.partition.proofs.Lists.{Ascend, at_itself}

module _ {K : Type 0} (cmp : K → K → Ordering) (exact : (x y : K) → is_at (cmp x) y ≡ true → x ≡ y) where
  abbrev looked_up : {X : Type 0} → K → List (K × X) → Option X
  looked_up q es = lookup (is_at (cmp q)) es

  -- what is below all keys is none of them
  pub none_above : {X : Type 0} (q : K) (es : List (K × X)) → Each (λ (e : K × X). cmp q e.0 ≡ Less) es → looked_up q es ≡ None
  none_above q [] h = refl
  none_above q (e ∷ es) h = lookup_tail (is_at (cmp q)) e es (ap is_eq h.0) ∙ none_above q es h.1

module _ {K X : Type 0} (cmp : K → K → Ordering) (total : IsTotalOrder cmp) (exact : (x y : K) → is_at (cmp x) y ≡ true → x ≡ y) where
  above : (x y : K × X) (ys : List (K × X)) → cmp x.0 y.0 ≡ Less → Ascend cmp (y ∷ ys) → looked_up cmp exact x.0 (y ∷ ys) ≡ None
  above x y ys less rise =
      none_above cmp exact x.0 (y ∷ ys)
      (less, each_weaker (λ (e : K × X). cmp y.0 e.0 ≡ Less) (λ (e : K × X). cmp x.0 e.0 ≡ Less) ys (λ e h. total.trans x.0 y.0 e.0 less h) rise.0)

  pub unique :
      (xs ys : List (K × X)) → Ascend cmp xs → Ascend cmp ys → ((q : K) → looked_up cmp exact q xs ≡ looked_up cmp exact q ys) → xs ≡ ys
  unique [] [] a b h = refl
  unique [] (y ∷ ys) a b h = let e : None ≡ Some y.1 = h y.0 ∙ lookup_head (is_at (cmp y.0)) y ys (at_itself cmp total y.0) in absurd (cc)
  unique (x ∷ xs) [] a b h = let e : None ≡ Some x.1 = sym (h x.0) ∙ lookup_head (is_at (cmp x.0)) x xs (at_itself cmp total x.0) in absurd (cc)
  unique (x ∷ xs) (y ∷ ys) a b h = by_order (cmp x.0 y.0) refl (λ t. unique xs ys a.1 b.1 t)
    where
      first : looked_up cmp exact x.0 (x ∷ xs) ≡ Some x.1
      first = lookup_head (is_at (cmp x.0)) x xs (at_itself cmp total x.0)

      tails : x.0 ≡ y.0 → (q : K) (t : Bool) → is_at (cmp q) x.0 ≡ t → looked_up cmp exact q xs ≡ looked_up cmp exact q ys
      tails one q true at_x =
          let is = exact q x.0 at_x in
          none_above cmp exact q xs (subst (λ z. Each (λ (e : K × X). cmp z e.0 ≡ Less) xs) (sym is) a.0)
          ∙ sym (none_above cmp exact q ys (subst (λ z. Each (λ (e : K × X). cmp z e.0 ≡ Less) ys) (sym (is ∙ one)) b.0))
      tails one q false at_x =
          sym (lookup_tail (is_at (cmp q)) x xs at_x) ∙ h q ∙ lookup_tail (is_at (cmp q)) y ys (ap (λ z. is_at (cmp q) z) (sym one) ∙ at_x)

      by_order :
          (o : Ordering) → cmp x.0 y.0 ≡ o → (((q : K) → looked_up cmp exact q xs ≡ looked_up cmp exact q ys) → xs ≡ ys) → x ∷ xs ≡ y ∷ ys
      by_order Less e rest =
          let none : None ≡ Some x.1 = sym (above x y ys e b) ∙ sym (h x.0) ∙ first in absurd (cc)
      by_order Greater e rest =
          let less : cmp y.0 x.0 ≡ Less = total.antisymm y.0 x.0 ∙ ap (λ o. ordering_reverse o) e in
          let none : None ≡ Some y.1 = sym (above y x xs less a) ∙ h y.0 ∙ lookup_head (is_at (cmp y.0)) y ys (at_itself cmp total y.0) in absurd (cc)
      by_order Equal e rest =
          let one : x.0 ≡ y.0 = exact x.0 y.0 (ap is_eq e) in
          let value : x.1 ≡ y.1 = some_is x.1 y.1 (sym first ∙ h x.0 ∙ lookup_head (is_at (cmp x.0)) y ys (ap is_eq e)) in
          λ j. (one j, value j) ∷ rest (λ q. tails one q (is_at (cmp q) x.0) refl) j

module _ {K X : Type 0} (cmp : K → K → Ordering) where
  -- a filter keeps the order
  pub each_filtered : (P : K × X → Type 0) (test : K × X → Bool) (es : List (K × X)) → Each P es → Each P (filter test es)
  each_filtered P test [] h = tt
  each_filtered P test (e ∷ es) h = by_test (test e) (each_filtered P test es h.1)
    where
      by_test : (b : Bool) → Each P (filter test es) → Each P (if b then e ∷ filter test es else filter test es)
      by_test true rest = (h.0, rest)
      by_test false rest = rest

  pub filtered : (test : K × X → Bool) (es : List (K × X)) → Ascend cmp es → Ascend cmp (filter test es)
  filtered test [] a = tt
  filtered test (e ∷ es) a = by_test (test e) (filtered test es a.1)
    where
      by_test : (b : Bool) → Ascend cmp (filter test es) → Ascend cmp (if b then e ∷ filter test es else filter test es)
      by_test true rest = (each_filtered (λ (f : K × X). cmp e.0 f.0 ≡ Less) test es a.0, rest)
      by_test false rest = rest

-- the items of slots, in the order of their keys
module _ {K V : Type 0} where
  abbrev pub item_at : K × Slot V → Option (K × V)
  item_at e = option_map (λ (x : Committed V). (e.0, x.item)) e.1.committed

  abbrev pub items_at : List (K × Slot V) → List (K × V)
  items_at es = filter_map item_at es

  each_item : (P : K → Type 0) (es : List (K × Slot V)) → Each (λ (e : K × Slot V). P e.0) es → Each (λ (r : K × V). P r.0) (items_at es)
  each_item P [] h = tt
  each_item P (e ∷ es) h = by_item e.1.committed (each_item P es h.1)
    where
      by_item : (o : Option (Committed V)) → Each (λ (r : K × V). P r.0) (items_at es)
          → Each (λ (r : K × V). P r.0) (cons_option (option_map (λ (x : Committed V). (e.0, x.item)) o) (items_at es))
      by_item None rest = rest
      by_item (Some x) rest = (h.0, rest)

  pub items_rise : (cmp : K → K → Ordering) (es : List (K × Slot V)) → Ascend cmp es → Ascend cmp (items_at es)
  items_rise cmp [] a = tt
  items_rise cmp (e ∷ es) a = by_item e.1.committed (items_rise cmp es a.1)
    where
      by_item : (o : Option (Committed V)) → Ascend cmp (items_at es) → Ascend cmp (cons_option (option_map (λ (x : Committed V). (e.0, x.item)) o) (items_at es))
      by_item None rest = rest
      by_item (Some x) rest = (each_item (λ k. cmp e.0 k ≡ Less) es a.0, rest)

  -- an item is looked up as its slot is
  pub item_looked :
      (cmp : K → K → Ordering) (exact : (x y : K) → is_at (cmp x) y ≡ true → x ≡ y) (q : K) (es : List (K × Slot V)) → Ascend cmp es
      → lookup (is_at (cmp q)) (items_at es) ≡ row_of (lookup (is_at (cmp q)) es)
  item_looked cmp exact q [] a = refl
  item_looked cmp exact q (e ∷ es) a = by_key (is_at (cmp q) e.0) refl e.1.committed refl (item_looked cmp exact q es a.1)
    where
      by_key :
          (b : Bool) → is_at (cmp q) e.0 ≡ b → (o : Option (Committed V)) → e.1.committed ≡ o
          → lookup (is_at (cmp q)) (items_at es) ≡ row_of (lookup (is_at (cmp q)) es)
          → lookup (is_at (cmp q)) (cons_option (option_map (λ (x : Committed V). (e.0, x.item)) o) (items_at es)) ≡ row_of (lookup (is_at (cmp q)) (e ∷ es))
      by_key true t None is rest =
          none_above cmp exact q (items_at es)
          (each_item (λ k. cmp q k ≡ Less) es (subst (λ z. Each (λ (f : K × Slot V). cmp z f.0 ≡ Less) es) (sym (exact q e.0 t)) a.0))
          ∙ sym (ap row_of (lookup_head (is_at (cmp q)) e es t) ∙ ap item_of is)
      by_key true t (Some x) is rest =
          lookup_head (is_at (cmp q)) (e.0, x.item) (items_at es) t ∙ sym (ap row_of (lookup_head (is_at (cmp q)) e es t) ∙ ap item_of is)
      by_key false t None is rest = rest ∙ sym (ap row_of (lookup_tail (is_at (cmp q)) e es t))
      by_key false t (Some x) is rest =
          lookup_tail (is_at (cmp q)) (e.0, x.item) (items_at es) t ∙ rest ∙ sym (ap row_of (lookup_tail (is_at (cmp q)) e es t))
