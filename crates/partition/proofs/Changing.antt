-- A cell of which one item changed holds the state of which the item changed.
use Rattle.std.specs.Ordering.{nat_cmp}
use Rattle.std.specs.BTreeMap.{is_at}
use Rattle.std.proofs.Common.{◌≡◌, ℕ, ◌&&◌, ◌++◌, nat_eq, Bool, true, false, if◌then◌else◌, List, [], Option, None, refl, sym, ap, ◌∙◌, subst}
use Rattle.std.proofs.lemmas.Bool.{cond-true, cond-false, eq-eqb, eqb-true}
use Rattle.std.specs.declared.cmp.Ord as ord
use Rattle.std.specs.declared.cmp.PartialEq as eq
use Rattle.std.specs.declared.cmp.PartialOrd as partial
use Rattle.index_feed.specs.declared.change.Change.{Change}
use Rattle.index_feed.specs.Feed.{AlikeAt, Feed}
use Rattle.txn_core.specs.Indexing.{indexed}
use Rattle.txn_core.specs.Service.{Service, IsServiceLawful}
use Rattle.txn_core.specs.Cells.{Item, item}
use Rattle.txn_core.specs.State.{Spot, State, Tally, on_key}
use Rattle.item_store.specs.declared.slot.Slot.{Slot}
use Rattle.item_store.specs.Slots.{committed_at, slot_of}
use Rattle.item_store.specs.Changes.{slot_at}
use Rattle.global_index.specs.Marks.{mark_in}
use Rattle.global_index.specs.Rows.{row_under}
use Rattle.index_changes.specs.Prepared.{prepared_in}
use Rattle.index_changes.proofs.Keys.{at_is, number_at, one_key}
use Rattle.partition.specs.declared.cell.Partition.{Partition}
use Rattle.partition.specs.Holds.{Holds, lives, pending_for, queued_by, slot_for}
use Rattle.partition.specs.Changes.{Changes, Unchanged, set_at}

-- what differs only where the item does not live is the same there
pub same_there : {X : Type 0} (a b : Bool) (x y z : X) → (b ≡ true → x ≡ y) → (if a && b then x else z) ≡ (if a && b then y else z)
same_there false b x y z e = refl
same_there true false x y z e = refl
same_there true true x y z e = e refl

pub same_here : {X : Type 0} (b : Bool) (x y z : X) → (b ≡ true → x ≡ y) → (if b then x else z) ≡ (if b then y else z)
same_here false x y z e = refl
same_here true x y z e = e refl

-- the slot of an item, and what its transaction's end queues, by what a cell holds of it
abbrev slot_by : {V : Type 0} → Item V → Option (Slot V)
slot_by x = slot_of (committed_at x.row x.stamp x.version) (pending_for x.pend)

module _ {K V A F C D Q B : Type 0} (S : Service K V A F C D Q B) where
  -- of the feed the items of a cell and what it queues change, and nothing else
  pub record FeedFollows (i : ℕ) (f g : Feed K V C) (v : State K V A C) (queued : List (Change K V)) : Type 0 where
    pub catalog : g.catalog ≡ f.catalog
    pub row : (q : K) → S.core.cell_of q ≡ i → g.row q ≡ (v.spot q).row
    pub outbox : g.outbox i ≡ f.outbox i ++ queued
    pub sent : g.sent i ≡ f.sent i
    pub mark : (j : ℕ) → g.mark i j ≡ f.mark i j
    pub shown : (x : ℕ) (q : K) → g.shown x q ≡ f.shown x q

module _
    {K V A F C D Q B : Type 0} (S : Service K V A F C D Q B) {O : ord.Ghosts K} {E : eq.Ghosts K} {P : partial.Ghosts K}
    {N : Type 0} {X : ord.Ghosts N} {Y : eq.Ghosts N} {Z : partial.Ghosts N} where
  pub unchanged :
      (i : ℕ) (c d : Partition K V C N O E P X Y Z) (w : State K V A C) (f : Feed K V C) → Unchanged c d → Holds S i c w f → Holds S i d w f
  unchanged i c d w f u h =
      record {
        partitions = u.beside.partitions ∙ h.partitions;
        items = λ v q. u.slots v q ∙ h.items v q;
        numbers = u.numbers ∙ h.numbers;
        catalog = u.beside.catalog ∙ h.catalog;
        prepared = λ q. u.prepared q ∙ h.prepared q;
        waiting = u.waiting ∙ h.waiting;
        sent = u.beside.sent ∙ h.sent;
        marks = λ j. ap (λ m. mark_in m.last.items j) u.beside.marks ∙ h.marks j;
        rows = λ g q. ap (λ r. row_under O.cmp r.indexes g q) u.beside.rows ∙ h.rows g q;
        under = h.under;
        shown = h.shown;
      }

  -- a cell holds every other state and feed that have the same in it
  pub moved_to :
      (i : ℕ) (c : Partition K V C N O E P X Y Z) (w v : State K V A C) (f g : Feed K V C)
      → ((q : K) → S.core.cell_of q ≡ i → item (w.spot q) ≡ item (v.spot q)) → w.cell i ≡ v.cell i → w.catalog ≡ v.catalog
      → AlikeAt (indexed S.core S.index) i f g → Holds S i c w f → Holds S i c v g
  moved_to i c w v f g items numbers catalog feed h =
      record {
        partitions = h.partitions;
        items = λ u q. h.items u q ∙ same_there (nat_eq (S.core.table q) u) (nat_eq (S.core.cell_of q) i) (slot_for (w.spot q)) (slot_for (v.spot q)) None (λ at_q. ap slot_by (items q (eqb-true (S.core.cell_of q) i at_q)));
        numbers = h.numbers ∙ numbers;
        catalog = h.catalog ∙ catalog;
        prepared = λ q. h.prepared q ∙ same_here (nat_eq (S.core.cell_of q) i) (queued_by S w.catalog q (w.spot q).row (w.spot q).pend) (queued_by S v.catalog q (v.spot q).row (v.spot q).pend) []
            (λ at_q. λ j. let x = items q (eqb-true (S.core.cell_of q) i at_q) j in queued_by S (catalog j) q x.row x.pend);
        waiting = h.waiting ∙ feed.outbox;
        sent = h.sent ∙ feed.sent;
        marks = λ j. h.marks j ∙ feed.mark j;
        rows = λ x q. h.rows x q ∙ same_here (nat_eq (S.core.cell_of q) i) (f.shown x q) (g.shown x q) None (λ at_q. feed.shown x q (eqb-true (S.core.cell_of q) i at_q));
        under = sym feed.catalog ∙ h.under ∙ catalog;
        shown = λ q at_q. sym (feed.row q at_q) ∙ h.shown q at_q ∙ (λ j. (items q at_q j).row);
      }

  module _ (law : IsServiceLawful S) (ordered : (x y : K) → S.index.cmp x y ≡ O.cmp x y) where
    module _
        (k : K) (c d : Partition K V C N O E P X Y Z) (w : State K V A C) (f g : Feed K V C) (here : Holds S (S.core.cell_of k) c w f)
        (h : Spot V → Spot V) (new : Option (Slot V)) (t s : Tally) (ready : K → List (Change K V)) (queued : List (Change K V))
        (is : Changes c d (S.core.table k) k new t ready queued) (new_is : new ≡ slot_for (h (w.spot k))) (numbers_is : t ≡ s)
        (ready_is :
        (q : K) → ready q
        ≡ (if nat_eq (S.core.cell_of q) (S.core.cell_of k) then queued_by S w.catalog q (if S.core.same k q then h (w.spot q) else w.spot q).row (if S.core.same k q then h (w.spot q) else w.spot q).pend else []))
        (feed : FeedFollows S (S.core.cell_of k) f g (on_key S.core w k h s) queued) where
      its_cell : nat_eq (S.core.cell_of k) (S.core.cell_of k) ≡ true
      its_cell = eq-eqb (S.core.cell_of k) (S.core.cell_of k) refl

      -- the slot of the key itself, under each number of a table
      own_slot :
          (v : ℕ) (b : Bool) → nat_eq (S.core.table k) v ≡ b
          → (if b && true then new else slot_at c.items v k) ≡ (if b && true then slot_for (h (w.spot k)) else None)
      own_slot v true e = new_is
      own_slot v false e =
          here.items v k
          ∙ cond-false (lives S (S.core.cell_of k) v k) (slot_for (w.spot k)) None (λ j. e j && nat_eq (S.core.cell_of k) (S.core.cell_of k))

      own_slots : (v : ℕ) → (if is_at (nat_cmp (S.core.table k)) v && is_at (O.cmp k) k then new else slot_at c.items v k) ≡ (if lives S (S.core.cell_of k) v k then slot_for (h (w.spot k)) else None)
      own_slots v =
          (λ j. if number_at (S.core.table k) v j && (at_is S law ordered k k ∙ law.core.itself k) j then new else slot_at c.items v k)
          ∙ own_slot v (nat_eq (S.core.table k) v) refl
          ∙ sym (λ j. if nat_eq (S.core.table k) v && its_cell j then slot_for (h (w.spot k)) else None)

      none_of : (a : Bool) (x y : Option (Slot V)) → (if a && false then x else y) ≡ y
      none_of true x y = refl
      none_of false x y = refl

      slots :
          (v : ℕ) (q : K) (b : Bool) → S.core.same k q ≡ b
          → (if is_at (nat_cmp (S.core.table k)) v && is_at (O.cmp k) q then new else slot_at c.items v q)
          ≡ (if lives S (S.core.cell_of k) v q then slot_for (if b then h (w.spot q) else w.spot q) else None)
      slots v q true e =
          subst (λ z. (if is_at (nat_cmp (S.core.table k)) v && is_at (O.cmp k) z then new else slot_at c.items v z) ≡ (if lives S (S.core.cell_of k) v z then slot_for (h (w.spot z)) else None)) (one_key S law k q e) (own_slots v)
      slots v q false e =
          (λ j. if is_at (nat_cmp (S.core.table k)) v && (at_is S law ordered k q ∙ e) j then new else slot_at c.items v q)
          ∙ none_of (is_at (nat_cmp (S.core.table k)) v) new (slot_at c.items v q)
          ∙ here.items v q

      pub changed : Holds S (S.core.cell_of k) d (on_key S.core w k h s) g
      changed =
          record {
            partitions = is.beside.partitions ∙ here.partitions;
            items = λ v q. is.slots v q ∙ slots v q (S.core.same k q) refl;
            numbers = is.numbers_are ∙ numbers_is ∙ sym (cond-true (nat_eq (S.core.cell_of k) (S.core.cell_of k)) s (w.cell (S.core.cell_of k)) its_cell);
            catalog = is.beside.catalog ∙ here.catalog;
            prepared = λ q. is.prepared_are q ∙ ready_is q;
            waiting = is.waiting ∙ ap (λ xs. xs ++ queued) here.waiting ∙ sym feed.outbox;
            sent = is.beside.sent ∙ here.sent ∙ sym feed.sent;
            marks = λ j. ap (λ m. mark_in m.last.items j) is.beside.marks ∙ here.marks j ∙ sym (feed.mark j);
            rows = λ x q. ap (λ r. row_under O.cmp r.indexes x q) is.beside.rows ∙ here.rows x q ∙ (λ j. if nat_eq (S.core.cell_of q) (S.core.cell_of k) then sym (feed.shown x q) j else None);
            under = feed.catalog ∙ here.under;
            shown = feed.row;
          }

    -- what is set aside for an item is what its transaction's end queues
    module _
        (k : K) (c : Partition K V C N O E P X Y Z) (w : State K V A C) (f : Feed K V C) (here : Holds S (S.core.cell_of k) c w f)
        (h : Spot V → Spot V) where
      abbrev due_at : K → Bool → List (Change K V)
      due_at q b =
          if nat_eq (S.core.cell_of q) (S.core.cell_of k) then queued_by S w.catalog q (if b then h (w.spot q) else w.spot q).row (if b then h (w.spot q) else w.spot q).pend else []

      pub set_ready :
          (xs : List (Change K V)) → xs ≡ queued_by S w.catalog k (h (w.spot k)).row (h (w.spot k)).pend
          → (q : K) → set_at c k xs q ≡ due_at q (S.core.same k q)
      set_ready xs is q = (λ j. if at_is S law ordered k q j then xs else prepared_in O.cmp c.prepared.lists q) ∙ by_key (S.core.same k q) refl
        where
          by_key : (b : Bool) → S.core.same k q ≡ b → (if b then xs else prepared_in O.cmp c.prepared.lists q) ≡ due_at q b
          by_key true e =
              subst (λ z. xs ≡ due_at z true) (one_key S law k q e)
              (is ∙ sym (cond-true (nat_eq (S.core.cell_of k) (S.core.cell_of k)) (queued_by S w.catalog k (h (w.spot k)).row (h (w.spot k)).pend) [] (eq-eqb (S.core.cell_of k) (S.core.cell_of k) refl)))
          by_key false e = here.prepared q

      pub same_ready :
          queued_by S w.catalog k (w.spot k).row (w.spot k).pend ≡ queued_by S w.catalog k (h (w.spot k)).row (h (w.spot k)).pend
          → (q : K) → prepared_in O.cmp c.prepared.lists q ≡ due_at q (S.core.same k q)
      same_ready is q = here.prepared q ∙ by_key (S.core.same k q) refl
        where
          by_key : (b : Bool) → S.core.same k q ≡ b → due_at q false ≡ due_at q b
          by_key true e =
              subst (λ z. due_at z false ≡ due_at z true) (one_key S law k q e)
              (λ j. if nat_eq (S.core.cell_of k) (S.core.cell_of k) then is j else [])
          by_key false e = refl
