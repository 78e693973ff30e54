-- What the end of the transaction that holds an item leaves of it.
use Rattle.std.specs.Prelude.{◌+◌, Option}
use Rattle.txn_core.specs.State.{Tally}
use Rattle.item_store.specs.declared.slot.Committed.{Committed}
use Rattle.item_store.specs.declared.slot.End.{End}
use Rattle.item_store.specs.declared.slot.End.TheVariants.{Settle, LetGo}
use Rattle.item_store.specs.declared.slot.Slot.{Slot}
use Rattle.item_store.specs.Slots.{committed_at, committed_of, counted, image_of, pending_of, stamp_of}

module _ {V : Type 0} where
  -- what is committed of the item afterwards
  abbrev pub committed_after : End → Tally → Option (Slot V) → Option (Committed V)
  committed_after Settle t old = committed_at (image_of (pending_of old)) (stamp_of (pending_of old)) (t.count + 1)
  committed_after LetGo t old = committed_of old

  -- the cell's floor and numbers afterwards
  abbrev pub counted_after : End → Tally → Option (Slot V) → Tally
  counted_after Settle t old = counted t old (image_of (pending_of old)) (stamp_of (pending_of old))
  counted_after LetGo t old = t
