-- What a call changes in the items, apart from which tables have a place.
use Rattle.std.specs.Prelude.{◌≡◌, ℕ, ◌+◌, ◌&&◌, Option, None, Some, if◌then◌else◌}
use Rattle.std.specs.Ordering.{nat_cmp}
use Rattle.std.specs.BTreeMap.{is_at}
use Rattle.std.specs.declared.cmp.Ord as ord
use Rattle.std.specs.declared.cmp.PartialEq as eq
use Rattle.std.specs.declared.cmp.PartialOrd as partial
use Rattle.txn_core.specs.declared.stamp.Stamp.{Stamp}
use Rattle.txn_core.specs.Stamps.{later}
use Rattle.txn_core.specs.State.{Tally}
use Rattle.item_store.specs.declared.slot.Slot.{Slot}
use Rattle.item_store.specs.declared.slot.Pending.{Pending}
use Rattle.item_store.specs.declared.store.ItemStore.{ItemStore}
use Rattle.item_store.specs.Slots.{committed_at, committed_of, counted, image_of, last_of, pending_of, slot_of, stamp_of}
use Rattle.item_store.specs.Changes.{slot_at}
use Rattle.item_store.specs.Counts.{tally}

module _ {V : Type 0} where
  -- the slot of an item after a write at a stamp, which made it this
  abbrev pub slot_written : Tally → Option (Slot V) → Option V → Stamp → Option (Slot V)
  slot_written t old row own = slot_of (committed_at row (later (last_of t.floor old) own) (t.count + 1)) None

  -- the slot of an item that a transaction holds
  abbrev pub slot_held : Option (Slot V) → Pending V → Option (Slot V)
  slot_held old p = slot_of (committed_of old) (Some p)

  -- the slot of a held item after its transaction's end, which made it what it was to be; and where it was let go
  abbrev pub slot_settled : Tally → Option (Slot V) → Option (Slot V)
  slot_settled t old = slot_of (committed_at (image_of (pending_of old)) (stamp_of (pending_of old)) (t.count + 1)) None

  abbrev pub slot_let_go : Option (Slot V) → Option (Slot V)
  slot_let_go old = slot_of (committed_of old) None

module _ {K V : Type 0} {O : ord.Ghosts K} {E : eq.Ghosts K} {P : partial.Ghosts K} where
  -- the item has this slot afterwards, each other one its own, and floor and numbers are these
  pub record ChangesItem (s t : ItemStore K V O E P) (u : ℕ) (k : K) (new : Option (Slot V)) (numbers : Tally) : Type 0 where
    pub slots : (v : ℕ) (q : K) → slot_at t v q ≡ (if is_at (nat_cmp u) v && is_at (O.cmp k) q then new else slot_at s v q)
    pub numbers_are : tally t.counts ≡ numbers

  -- a write at a stamp made the item this
  abbrev pub WritesIn : ItemStore K V O E P → ItemStore K V O E P → ℕ → K → Option V → Stamp → Type 0
  WritesIn s t u k row own =
      let old = slot_at s u k in
      let numbers = tally s.counts in
      ChangesItem s t u k (slot_written numbers old row own) (counted numbers old row own)

  -- a transaction holds the item
  abbrev pub HoldsIn : ItemStore K V O E P → ItemStore K V O E P → ℕ → K → Pending V → Type 0
  HoldsIn s t u k p = ChangesItem s t u k (slot_held (slot_at s u k) p) (tally s.counts)

  -- each item has its own slot, and floor and numbers are as they were
  pub record SameItems (s t : ItemStore K V O E P) : Type 0 where
    pub slots : (v : ℕ) (q : K) → slot_at t v q ≡ slot_at s v q
    pub numbers : tally t.counts ≡ tally s.counts
