-- What slots say of an item, and what a change of it does to its cell.
use Rattle.std.specs.Prelude.{ℕ, ◌+◌, Option, None, Some, is_some, if◌then◌else◌}
use Rattle.txn_core.specs.declared.stamp.Stamp.{Stamp}
use Rattle.txn_core.specs.Stamps.{later, single}
use Rattle.txn_core.specs.State.{Tally}
use Rattle.item_store.specs.declared.slot.Committed.{Committed}
use Rattle.item_store.specs.declared.slot.Pending.{Pending}
use Rattle.item_store.specs.declared.slot.Slot.{Slot}

-- a cell's floor and numbers after a change at a stamp that left an item absent, which was changed last at another stamp: the
-- floor is raised
abbrev pub left_absent : Tally → Stamp → Stamp → Tally
left_absent t last own = record { floor = later (later t.floor last) own; count = t.count + 1; gone = t.count + 1 }

module _ {V : Type 0} where
  -- the committed row of a slot, with its stamp and version; the pending on it
  abbrev pub committed_of : Option (Slot V) → Option (Committed V)
  committed_of None = None
  committed_of (Some s) = s.committed

  abbrev pub pending_of : Option (Slot V) → Option (Pending V)
  pending_of None = None
  pending_of (Some s) = s.pending

  abbrev pub item_of : Option (Committed V) → Option V
  item_of None = None
  item_of (Some c) = Some c.item

  abbrev pub image_of : Option (Pending V) → Option V
  image_of None = None
  image_of (Some p) = p.image

  abbrev pub number_of : Option (Pending V) → Option ℕ
  number_of None = None
  number_of (Some p) = Some p.number

  abbrev pub stamp_of : Option (Pending V) → Stamp
  stamp_of None = single 0
  stamp_of (Some p) = p.stamp

  abbrev pub stamp_or : Stamp → Option (Committed V) → Stamp
  stamp_or floor None = floor
  stamp_or floor (Some c) = c.stamp

  abbrev pub version_or : ℕ → Option (Committed V) → ℕ
  version_or gone None = gone
  version_or gone (Some c) = c.version

  -- the committed item, and the number of the transaction that holds it
  abbrev pub row_of : Option (Slot V) → Option V
  row_of s = item_of (committed_of s)

  abbrev pub holder_of : Option (Slot V) → Option ℕ
  holder_of s = number_of (pending_of s)

  -- the stamp at which the item was changed last: its own, or where it is absent, the floor of its cell
  abbrev pub last_of : Stamp → Option (Slot V) → Stamp
  last_of floor s = stamp_or floor (committed_of s)

  -- the version of the item, or where it is absent, the number of the last change that left an item of the cell absent
  abbrev pub version_of : ℕ → Option (Slot V) → ℕ
  version_of gone s = version_or gone (committed_of s)

  -- the slot of a row and a pending: none where there is neither
  abbrev pub slot_of : Option (Committed V) → Option (Pending V) → Option (Slot V)
  slot_of None None = None
  slot_of (Some c) p = Some (record { committed = Some c; pending = p })
  slot_of None (Some p) = Some (record { committed = None; pending = Some p })

  -- an item with its stamp and version, where it is there
  abbrev pub committed_at : Option V → Stamp → ℕ → Option (Committed V)
  committed_at None stamp version = None
  committed_at (Some v) stamp version = Some (record { item = v; stamp = stamp; version = version })

  -- a cell's floor and numbers after a change of an item, at a stamp, to this row
  abbrev pub counted : Tally → Option (Slot V) → Option V → Stamp → Tally
  counted t old (Some v) own = record t { count = t.count + 1 }
  counted t old None own = left_absent t (last_of t.floor old) own

  -- 1 where a transaction holds the item
  abbrev pub held_in : Slot V → ℕ
  held_in s = if is_some s.pending then 1 else 0
