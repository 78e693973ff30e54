-- What a cell lists as held is what the states that it holds have held there.
use Rattle.std.proofs.Common.{◌≡◌, ℕ, ◌+◌, ◌&&◌, is_some, if◌then◌else◌, nat_eq, Bool, true, false, List, [], ◌∷◌, Option, None, Some, option_map, refl, sym, ap, ◌∙◌, subst, arith}
use Rattle.std.proofs.Common.{Less, Equal}
use Rattle.std.specs.List.{cons_option, flat_map, list_any, sum_by}
use Rattle.std.specs.Ordering.{nat_cmp, is_eq}
use Rattle.std.specs.Cmp.{IsTotalOrder, nat_cmp_total, tied_itself}
use Rattle.std.specs.BTreeMap.{get, is_at}
use Rattle.std.specs.Map.{lookup, values_of}
use Rattle.std.proofs.lemmas.List.Sums.{sum_by-cons}
use Rattle.std.proofs.lemmas.Bool.{cond-true, cond-false, eq-eqb, eqb-true}
use Rattle.std.specs.declared.cmp.Ord as ord
use Rattle.std.specs.declared.cmp.PartialEq as eq
use Rattle.std.specs.declared.cmp.PartialOrd as partial
use Rattle.index_feed.specs.Feed.{Each, Feed}
use Rattle.index_feed.proofs.Overlays.{each_weaker}
use Rattle.txn_core.specs.declared.answer.HeldItem.{HeldItem}
use Rattle.txn_core.specs.Service.{Service, IsServiceLawful}
use Rattle.txn_core.specs.State.{State, holder}
use Rattle.txn_core.specs.Legal.{ArePendings}
use Rattle.item_store.specs.declared.slot.Pending.{Pending}
use Rattle.item_store.specs.declared.slot.Slot.{Slot}
use Rattle.item_store.specs.declared.table.TableItems.{TableItems}
use Rattle.item_store.specs.Slots.{held_in, holder_of, number_of}
use Rattle.item_store.specs.Tables.{slot_in}
use Rattle.item_store.specs.Changes.{slot_at}
use Rattle.partition.specs.declared.cell.Partition.{Partition}
use Rattle.partition.specs.Holds.{Holds, lives, slot_for}
use Rattle.partition.specs.Pendings.{AreOrdered, held_in_table, held_at, held_items}
use Rattle.index_changes.proofs.Basics.{some_is, and_both}
use Rattle.index_changes.proofs.Keys.{at_is, one_key}
use Rattle.partition.proofs.Keeping.{holder_back}
use Rattle.partition.proofs.Lists.{Apart, Ascend, all_from_each, any_filter_map, any_flat_map, apart_append, ascend, each_both, each_filter_map, each_flat_map, found, pairs_from_apart}

module _ {K V : Type 0} where
  -- the item of a held one
  abbrev made : K → Pending V → HeldItem K
  made k p = record { key = k; number = p.number }

  key_of_held : (e : K × Slot V) (p : HeldItem K) → held_at e ≡ Some p → p.key ≡ e.0
  key_of_held e p is = by_pending e.1.pending is
    where
      by_pending : (o : Option (Pending V)) → option_map (λ q. made e.0 q) o ≡ Some p → p.key ≡ e.0
      by_pending None h = absurd (cc)
      by_pending (Some q) h = sym (ap (λ x. x.key) (some_is (made e.0 q) p h))

  number_of_held : (e : K × Slot V) (p : HeldItem K) → held_at e ≡ Some p → number_of e.1.pending ≡ Some p.number
  number_of_held e p is = by_pending e.1.pending is
    where
      by_pending : (o : Option (Pending V)) → option_map (λ q. made e.0 q) o ≡ Some p → number_of o ≡ Some p.number
      by_pending None h = absurd (cc)
      by_pending (Some q) h = ap (λ x. Some x.number) (some_is (made e.0 q) p h)

  -- who holds an item is listed
  held_of_number : (k : K) (o : Option (Pending V)) (n : ℕ) → number_of o ≡ Some n → option_map (λ q. made k q) o ≡ Some (record { key = k; number = n })
  held_of_number k None n e = absurd (cc)
  held_of_number k (Some q) n e = λ j. Some (record { key = k; number = some_is q.number n e j })

  -- a table of which no item is held lists none
  pub none_listed : (es : List (K × Slot V)) → sum_by held_in (values_of es) ≡ 0 → held_in_table es ≡ []
  none_listed [] e = refl
  none_listed (x ∷ es) e = by_pending x.1.pending (sum_by held_in (values_of es)) (sym (sum_by-cons held_in x.1 (values_of es)) ∙ e) (none_listed es)
    where
      by_pending :
          (o : Option (Pending V)) (n : ℕ) → (if is_some o then 1 else 0) + n ≡ 0 → (n ≡ 0 → held_in_table es ≡ [])
          → cons_option (option_map (λ q. made x.0 q) o) (held_in_table es) ≡ []
      by_pending None n z rest = rest (omega arith)
      by_pending (Some q) n z rest = absurd (omega arith)

module _
    {K V A F C D Q B : Type 0} (S : Service K V A F C D Q B) {O : ord.Ghosts K} {E : eq.Ghosts K} {P : partial.Ghosts K} {N : Type 0} {X : ord.Ghosts N} {Y : eq.Ghosts N} {Z : partial.Ghosts N}
    (i : ℕ) (c : Partition K V C N O E P X Y Z) (w : State K V A C) (f : Feed K V C) (here : Holds S i c w f) where
  -- what is kept under a table's number is of an item that lives there
  pub told : (u : ℕ) (k : K) (s : Slot V) → slot_at c.items u k ≡ Some s → (lives S i u k ≡ true) × (slot_for (w.spot k) ≡ Some s)
  told u k s e = by_lives (lives S i u k) refl
    where
      by_lives : (b : Bool) → lives S i u k ≡ b → (lives S i u k ≡ true) × (slot_for (w.spot k) ≡ Some s)
      by_lives true t = (t, sym (cond-true (lives S i u k) (slot_for (w.spot k)) None t) ∙ sym (here.items u k) ∙ e)
      by_lives false t =
          let none : None ≡ Some s = sym (cond-false (lives S i u k) (slot_for (w.spot k)) None t) ∙ sym (here.items u k) ∙ e in absurd (cc)

module _
    {K V A F C D Q B : Type 0} (S : Service K V A F C D Q B) (law : IsServiceLawful S)
    {O : ord.Ghosts K} (ordered : (x y : K) → S.index.cmp x y ≡ O.cmp x y) where
  -- the items differ
  abbrev Differ : HeldItem K → HeldItem K → Type 0
  Differ x y = S.core.same x.key y.key ≡ false

  apart_among : (es : List (K × Slot V)) → Ascend O.cmp es → Apart Differ (held_in_table es)
  apart_among [] a = tt
  apart_among (e ∷ es) a = by_option (held_at e) refl (apart_among es a.1)
    where
      by_option : (o : Option (HeldItem K)) → held_at e ≡ o → Apart Differ (held_in_table es) → Apart Differ (cons_option o (held_in_table es))
      by_option None is rest = rest
      by_option (Some p) is rest = (
        each_filter_map held_at (λ y. Differ p y) es
            (each_weaker (λ (f : K × Slot V). O.cmp e.0 f.0 ≡ Less) (λ (f : K × Slot V). (y : HeldItem K) → held_at f ≡ Some y → Differ p y) es
            (λ f less y h. (λ j. S.core.same (key_of_held e p is j) (key_of_held f y h j)) ∙ sym (at_is S law ordered e.0 f.0) ∙ ap is_eq less) a.0),
        rest,
      )

  module _ {E : eq.Ghosts K} {P : partial.Ghosts K} {N : Type 0} {X : ord.Ghosts N} {Y : eq.Ghosts N} {Z : partial.Ghosts N} (total : IsTotalOrder O.cmp) (i : ℕ) (c : Partition K V C N O E P X Y Z) (w : State K V A C) (f : Feed K V C) (here : Holds S i c w f) where
    -- an item that is listed is held there, and is of the table
    abbrev IsHeldIn : ℕ → HeldItem K → Type 0
    IsHeldIn u p = (S.core.cell_of p.key ≡ i) × (holder (w.spot p.key).pend ≡ Some p.number) × (S.core.table p.key ≡ u)

    one_held : (u : ℕ) (e : K × Slot V) (p : HeldItem K) → slot_at c.items u e.0 ≡ Some e.1 → held_at e ≡ Some p → IsHeldIn u p
    one_held u e p kept is =
        let h = told S i c w f here u e.0 e.1 kept in
        let l = and_both (nat_eq (S.core.table e.0) u) (nat_eq (S.core.cell_of e.0) i) h.0 in
        let k = key_of_held e p is in (
          ap (λ x. S.core.cell_of x) k ∙ eqb-true (S.core.cell_of e.0) i l.1,
          ap (λ x. holder (w.spot x).pend) k ∙ sym (holder_back (w.spot e.0)) ∙ ap holder_of h.1 ∙ number_of_held e p is,
          ap (λ x. S.core.table x) k ∙ eqb-true (S.core.table e.0) u l.0,
        )

    module _ (order : AreOrdered c.items.tables) where
      abbrev of_table : ℕ × TableItems K V O E P → List (HeldItem K)
      of_table t = held_in_table t.1.slots.entries

      tables_found : Each (λ (t : ℕ × TableItems K V O E P). get nat_cmp c.items.tables t.0 ≡ Some t.1) c.items.tables.entries
      tables_found = found nat_cmp nat_cmp_total c.items.tables.entries (ascend nat_cmp c.items.tables.entries order.outer)

      rises : Each (λ (t : ℕ × TableItems K V O E P). Ascend O.cmp t.1.slots.entries) c.items.tables.entries
      rises = each_weaker _ (λ (t : ℕ × TableItems K V O E P). Ascend O.cmp t.1.slots.entries) c.items.tables.entries (λ t sorted. ascend O.cmp t.1.slots.entries sorted) order.inner

      held_there : Each (λ (t : ℕ × TableItems K V O E P). Each (IsHeldIn t.0) (of_table t)) c.items.tables.entries
      held_there =
          each_both (λ (t : ℕ × TableItems K V O E P). get nat_cmp c.items.tables t.0 ≡ Some t.1) (λ (t : ℕ × TableItems K V O E P). Ascend O.cmp t.1.slots.entries)
          (λ (t : ℕ × TableItems K V O E P). Each (IsHeldIn t.0) (of_table t))
          (λ t got rise.
          each_filter_map held_at (IsHeldIn t.0) t.1.slots.entries
          (each_weaker (λ (e : K × Slot V). lookup (is_at (O.cmp e.0)) t.1.slots.entries ≡ Some e.1)
          (λ (e : K × Slot V). (p : HeldItem K) → held_at e ≡ Some p → IsHeldIn t.0 p) t.1.slots.entries
          (λ e looked p is. one_held t.0 e p (ap (λ o. slot_in o e.0) got ∙ looked) is) (found O.cmp total t.1.slots.entries rise)))
          c.items.tables.entries tables_found rises

      differ_by_table : (u v : ℕ) (x y : HeldItem K) → nat_cmp u v ≡ Less → IsHeldIn u x → IsHeldIn v y → Differ x y
      differ_by_table u v x y less a b = by_same (S.core.same x.key y.key) refl
        where
          not_less : (n : ℕ) → nat_cmp n n ≡ Less → ⊥
          not_less n h = let tied : nat_cmp n n ≡ Equal = tied_itself nat_cmp_total n in absurd (cc)

          by_same : (t : Bool) → S.core.same x.key y.key ≡ t → Differ x y
          by_same true t =
              let e : u ≡ v = sym a.2 ∙ ap (λ k. S.core.table k) (one_key S law x.key y.key t) ∙ b.2 in
              let same : nat_cmp v v ≡ Less = subst (λ z. nat_cmp z v ≡ Less) e less in
              absurd (not_less v same)
          by_same false t = t

      all_apart :
          (ts : List (ℕ × TableItems K V O E P)) → Ascend nat_cmp ts
          → Each (λ (t : ℕ × TableItems K V O E P). Each (IsHeldIn t.0) (of_table t)) ts
          → Each (λ (t : ℕ × TableItems K V O E P). Ascend O.cmp t.1.slots.entries) ts → Apart Differ (flat_map of_table ts)
      all_apart [] a b d = tt
      all_apart (t ∷ ts) a b d =
          apart_append Differ (of_table t) (flat_map of_table ts) (apart_among t.1.slots.entries d.0) (all_apart ts a.1 b.1 d.1)
          (each_weaker (IsHeldIn t.0) (λ x. Each (λ y. Differ x y) (flat_map of_table ts)) (of_table t)
          (λ x hx. each_flat_map of_table (λ y. Differ x y) ts
          (each_both (λ (v : ℕ × TableItems K V O E P). nat_cmp t.0 v.0 ≡ Less) (λ (v : ℕ × TableItems K V O E P). Each (IsHeldIn v.0) (of_table v))
          (λ (v : ℕ × TableItems K V O E P). Each (λ y. Differ x y) (of_table v))
          (λ v less held. each_weaker (IsHeldIn v.0) (λ y. Differ x y) (of_table v) (λ y hy. differ_by_table t.0 v.0 x y less hx hy) held) ts a.0 b.1))
          b.0)

      listed : (q : K) (n : ℕ) → S.core.cell_of q ≡ i → holder (w.spot q).pend ≡ Some n → list_any (λ (p : HeldItem K). S.core.same p.key q) (held_items c.items.tables) ≡ true
      listed q n at_q holds = by_table (get nat_cmp c.items.tables (S.core.table q)) refl
        where
          kept : slot_at c.items (S.core.table q) q ≡ slot_for (w.spot q)
          kept =
              here.items (S.core.table q) q
              ∙ cond-true (lives S i (S.core.table q) q) (slot_for (w.spot q)) None
              (λ j. eq-eqb (S.core.table q) (S.core.table q) refl j && eq-eqb (S.core.cell_of q) i at_q j)

          by_number : (s : Option (Slot V)) → s ≡ slot_for (w.spot q) → holder_of s ≡ Some n
          by_number s e = ap holder_of e ∙ holder_back (w.spot q) ∙ holds

          at_key : (k : K) → is_at (O.cmp q) k ≡ true → S.core.same k q ≡ true
          at_key k e = law.core.turned q k (sym (at_is S law ordered q k) ∙ e)

          by_slot :
              (t : TableItems K V O E P) (s : Option (Slot V)) → get O.cmp t.slots q ≡ s → holder_of s ≡ Some n
              → list_any (λ (p : HeldItem K). S.core.same p.key q) (held_in_table t.slots.entries) ≡ true
          by_slot t None e h = absurd (cc)
          by_slot t (Some s) e h =
              any_filter_map (λ (p : HeldItem K). S.core.same p.key q) (is_at (O.cmp q)) held_at s (λ k. record { key = k; number = n })
              (λ k at_k. (held_of_number k s.pending n h, at_key k at_k)) t.slots.entries e

          by_table :
              (o : Option (TableItems K V O E P)) → get nat_cmp c.items.tables (S.core.table q) ≡ o
              → list_any (λ (p : HeldItem K). S.core.same p.key q) (held_items c.items.tables) ≡ true
          by_table None e =
              let none : holder_of {V = V} None ≡ Some n = by_number None (sym (ap (λ o. slot_in o q) e) ∙ kept) in absurd (cc)
          by_table (Some t) e =
              any_flat_map (λ (p : HeldItem K). S.core.same p.key q) (is_at (nat_cmp (S.core.table q))) of_table t
              (λ u at_u. by_slot t (get O.cmp t.slots q) refl (by_number (get O.cmp t.slots q) (sym (ap (λ o. slot_in o q) e) ∙ kept)))
              c.items.tables.entries e

      pub are_pendings : ArePendings S w i (held_items c.items.tables)
      are_pendings =
          let each = each_flat_map of_table (λ p. (S.core.cell_of p.key ≡ i) × (holder (w.spot p.key).pend ≡ Some p.number)) c.items.tables.entries
          (each_weaker _ (λ (t : ℕ × TableItems K V O E P). Each (λ (p : HeldItem K). (S.core.cell_of p.key ≡ i) × (holder (w.spot p.key).pend ≡ Some p.number)) (of_table t)) c.items.tables.entries
          (λ t held. each_weaker (IsHeldIn t.0) (λ (p : HeldItem K). (S.core.cell_of p.key ≡ i) × (holder (w.spot p.key).pend ≡ Some p.number)) (of_table t) (λ p h. (h.0, h.1)) held) held_there) in
          record {
            each = all_from_each _ (held_items c.items.tables) each;
            all = listed;
            once = pairs_from_apart Differ (held_items c.items.tables) (all_apart c.items.tables.entries (ascend nat_cmp c.items.tables.entries order.outer) held_there rises);
          }
