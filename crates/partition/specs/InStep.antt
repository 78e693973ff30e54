-- A cell whose local entries are those of its items.
use Rattle.std.specs.Prelude.{◌≡◌, ℕ, List, Option, None, Some}
use Rattle.std.specs.BTreeMap.{BTreeMap}
use Rattle.std.specs.declared.cmp.Ordering.{Ordering}
use Rattle.std.specs.declared.cmp.Ord as ord
use Rattle.std.specs.declared.cmp.PartialEq as eq
use Rattle.std.specs.declared.cmp.PartialOrd as partial
use Rattle.txn_core.specs.Service.{Service}
use Rattle.item_store.specs.declared.slot.Pending.{Pending}
use Rattle.item_store.specs.declared.slot.Slot.{Slot}
use Rattle.item_store.specs.declared.store.ItemStore.{ItemStore}
use Rattle.item_store.specs.Slots.{image_of, pending_of, row_of}
use Rattle.item_store.specs.Changes.{slot_at}
use Rattle.local_index.specs.declared.claim.Claim.{Claim}
use Rattle.local_index.specs.Items.{AreOf}
use Rattle.index_changes.specs.declared.change.IndexChanges.{IndexChanges}
use Rattle.index_changes.specs.Prepared.{Moves, moves_in, no_moves}
use Rattle.partition.specs.declared.cell.Partition.{Partition}
use Rattle.index_changes.specs.Entries.{LocalEntries, entries_at, moves_by}

module _ {K V C N : Type 0} (L : LocalEntries K V C N) where
  -- the moves of entries that the end of the transaction that holds an item makes, which is this now: none where nobody holds it
  abbrev pub moves_for : C → K → Option V → Option (Pending V) → Moves N
  moves_for cat k row None = no_moves
  moves_for cat k row (Some p) = moves_by L cat k row p.image

  -- those of an item that a cell keeps in this slot
  abbrev pub moves_kept : C → K → Option (Slot V) → Moves N
  moves_kept cat k s = moves_for cat k (row_of s) (pending_of s)

  module _ {O : ord.Ghosts K} {E : eq.Ghosts K} {P : partial.Ghosts K} where
    -- the entries of the committed item of a key of a table, and of its image that a transaction holds
    abbrev pub entries_committed : C → ItemStore K V O E P → ℕ → K → List N
    entries_committed cat items u k = entries_at L cat k (row_of (slot_at items u k))

    abbrev pub entries_held : C → ItemStore K V O E P → ℕ → K → List N
    entries_held cat items u k = entries_at L cat k (image_of (pending_of (slot_at items u k)))

module _ {K V A F C D Q B N : Type 0} (S : Service K V A F C D Q B) (L : LocalEntries K V C N) {O : ord.Ghosts K} {E : eq.Ghosts K} {P : partial.Ghosts K} where
  -- the committed entries are exactly those of the committed items, those held exactly those of the images that transactions
  -- hold, and what the ends of these move is prepared
  pub record AreInStep
      (cmp : N → N → Ordering) (cat : C) (items : ItemStore K V O E P) (lists : BTreeMap K (IndexChanges K V N))
      (tables : BTreeMap ℕ (BTreeMap N Claim)) : Type 0 where
    pub entries : AreOf cmp S.core.same L.item (entries_committed L cat items) (entries_held L cat items) tables
    pub moves : (k : K) → moves_in O.cmp lists k ≡ moves_kept L cat k (slot_at items (S.core.table k) k)

  module _ {X : ord.Ghosts N} {Y : eq.Ghosts N} {Z : partial.Ghosts N} where
    abbrev pub IsInStep : Partition K V C N O E P X Y Z → Type 0
    IsInStep c = AreInStep X.cmp c.catalog c.items c.prepared.lists c.locals.tables

    -- where the one was so, the other one is
    abbrev pub StaysInStep : Partition K V C N O E P X Y Z → Partition K V C N O E P X Y Z → Type 0
    StaysInStep c d = IsInStep c → IsInStep d
