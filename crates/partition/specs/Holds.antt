-- When a cell holds what the state and the feed have in it.
use Rattle.std.specs.Prelude.{◌≡◌, ℕ, Bool, ◌&&◌, nat_eq, List, [], Option, None, Some, if◌then◌else◌}
use Rattle.std.specs.declared.cmp.Ord as ord
use Rattle.std.specs.declared.cmp.PartialEq as eq
use Rattle.std.specs.declared.cmp.PartialOrd as partial
use Rattle.index_feed.specs.declared.change.Change.{Change}
use Rattle.index_feed.specs.Feed.{Feed, changes}
use Rattle.txn_core.specs.Indexing.{indexed}
use Rattle.txn_core.specs.Service.{Service}
use Rattle.txn_core.specs.State.{Pending as Held, Spot, State}
use Rattle.item_store.specs.declared.slot.Pending.{Pending}
use Rattle.item_store.specs.declared.slot.Slot.{Slot}
use Rattle.item_store.specs.Slots.{committed_at, slot_of}
use Rattle.item_store.specs.Changes.{slot_at}
use Rattle.item_store.specs.Counts.{tally}
use Rattle.global_index.specs.Marks.{mark_in}
use Rattle.global_index.specs.Rows.{row_under}
use Rattle.index_changes.specs.Prepared.{prepared_in}
use Rattle.partition.specs.declared.cell.Partition.{Partition}

module _ {V : Type 0} where
  -- the transaction that holds an item, and the item as it will be, as a slot has them
  abbrev pub pending_for : Option (Held V) → Option (Pending V)
  pending_for None = None
  pending_for (Some p) = Some (record { number = p.number; stamp = p.stamp; image = p.image })

  -- the slot of an item: none where it is absent and nobody holds it
  abbrev pub slot_for : Spot V → Option (Slot V)
  slot_for s = slot_of (committed_at s.row s.stamp s.version) (pending_for s.pend)

module _ {K V A F C D Q B : Type 0} (S : Service K V A F C D Q B) where
  -- what the end of the transaction that holds an item queues
  abbrev pub queued_by : C → K → Option V → Option (Held V) → List (Change K V)
  queued_by cat q row None = []
  queued_by cat q row (Some p) = changes (indexed S.core S.index) cat q row p.image

  -- the item of a key lives in the cell, and in the table of this number
  abbrev pub lives : ℕ → ℕ → K → Bool
  lives i u q = nat_eq (S.core.table q) u && nat_eq (S.core.cell_of q) i

  module _
      {O : ord.Ghosts K} {E : eq.Ghosts K} {P : partial.Ghosts K}
      {N : Type 0} {X : ord.Ghosts N} {Y : eq.Ghosts N} {Z : partial.Ghosts N} where
    -- the cell i has just the items that live in it, its floor and numbers, the catalog, and of the feed what it has there: the
    -- changes that wait and those that its transactions' ends will queue, what it carried out of each source, its index rows
    pub record Holds (i : ℕ) (c : Partition K V C N O E P X Y Z) (w : State K V A C) (f : Feed K V C) : Type 0 where
      pub partitions : c.partitions ≡ S.control
      pub items : (u : ℕ) (q : K) → slot_at c.items u q ≡ (if lives i u q then slot_for (w.spot q) else None)
      pub numbers : tally c.items.counts ≡ w.cell i
      pub catalog : c.catalog ≡ w.catalog
      pub prepared :
          (q : K) → prepared_in O.cmp c.prepared.lists q
          ≡ (if nat_eq (S.core.cell_of q) i then queued_by w.catalog q (w.spot q).row (w.spot q).pend else [])
      pub waiting : c.outbox.waiting.items ≡ f.outbox i
      pub sent : c.outbox.sent ≡ f.sent i
      pub marks : (source : ℕ) → mark_in c.marks.last.items source ≡ f.mark i source
      pub rows : (g : ℕ) (q : K) → row_under O.cmp c.rows.indexes g q ≡ (if nat_eq (S.core.cell_of q) i then f.shown g q else None)
      -- the feed is of these items
      pub under : f.catalog ≡ w.catalog
      pub shown : (q : K) → S.core.cell_of q ≡ i → f.row q ≡ (w.spot q).row
