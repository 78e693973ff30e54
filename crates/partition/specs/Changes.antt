-- What a call changes in a cell, apart from the protocol.
use Rattle.std.specs.Prelude.{◌≡◌, ℕ, true, ◌&&◌, ◌++◌, List, [], Option, if◌then◌else◌}
use Rattle.std.specs.Ordering.{nat_cmp}
use Rattle.std.specs.BTreeMap.{is_at}
use Rattle.std.specs.declared.cmp.Ord as ord
use Rattle.std.specs.declared.cmp.PartialEq as eq
use Rattle.std.specs.declared.cmp.PartialOrd as partial
use Rattle.index_feed.specs.declared.change.Change.{Change}
use Rattle.txn_core.specs.declared.stamp.Stamp.{Stamp}
use Rattle.txn_core.specs.State.{Tally}
use Rattle.item_store.specs.declared.slot.Pending.{Pending}
use Rattle.item_store.specs.declared.slot.Slot.{Slot}
use Rattle.item_store.specs.Slots.{counted, image_of, pending_of, stamp_of}
use Rattle.item_store.specs.Changes.{slot_at}
use Rattle.item_store.specs.Counts.{tally}
use Rattle.index_changes.specs.Prepared.{Moves, moves_in, prepared_in}
use Rattle.partition.specs.declared.cell.Partition.{Partition}
use Rattle.partition.specs.Stores.{slot_held, slot_let_go, slot_settled, slot_written}

module _
    {K V C : Type 0} {O : ord.Ghosts K} {E : eq.Ghosts K} {P : partial.Ghosts K}
    {N : Type 0} {X : ord.Ghosts N} {Y : eq.Ghosts N} {Z : partial.Ghosts N} where
  -- what no call on an item changes
  pub record SameBeside (c d : Partition K V C N O E P X Y Z) : Type 0 where
    pub partitions : d.partitions ≡ c.partitions
    pub catalog : d.catalog ≡ c.catalog
    pub sent : d.outbox.sent ≡ c.outbox.sent
    pub marks : d.marks ≡ c.marks
    pub rows : d.rows ≡ c.rows

  -- what is set aside for each item, where it is this for one
  abbrev pub set_at : Partition K V C N O E P X Y Z → K → List (Change K V) → K → List (Change K V)
  set_at c k xs q = if is_at (O.cmp k) q then xs else prepared_in O.cmp c.prepared.lists q

  -- nothing is set aside for an item
  abbrev pub IsUnprepared : Partition K V C N O E P X Y Z → K → Type 0
  IsUnprepared c k = (q : K) → is_at (O.cmp k) q ≡ true → prepared_in O.cmp c.prepared.lists q ≡ []

  -- an item has this slot afterwards, each other one its own; this is set aside for each; floor and numbers are these; and these
  -- changes wait behind the others
  pub record Changes
      (c d : Partition K V C N O E P X Y Z) (u : ℕ) (k : K) (new : Option (Slot V)) (numbers : Tally)
      (ready : K → List (Change K V)) (queued : List (Change K V)) : Type 0 where
    pub slots :
        (v : ℕ) (q : K) → slot_at d.items v q ≡ (if is_at (nat_cmp u) v && is_at (O.cmp k) q then new else slot_at c.items v q)
    pub numbers_are : tally d.items.counts ≡ numbers
    pub prepared_are : (q : K) → prepared_in O.cmp d.prepared.lists q ≡ ready q
    pub waiting : d.outbox.waiting.items ≡ c.outbox.waiting.items ++ queued
    pub beside : SameBeside c d

  -- a write at a stamp made an item this, and queued these changes
  abbrev pub WritesItem :
      Partition K V C N O E P X Y Z → Partition K V C N O E P X Y Z → ℕ → K → Option V → Stamp → List (Change K V) → Type 0
  WritesItem c d u k row own queued =
      let old = slot_at c.items u k in
      let numbers = tally c.items.counts in
      Changes c d u k (slot_written numbers old row own) (counted numbers old row own) (λ q. prepared_in O.cmp c.prepared.lists q) queued

  -- a transaction holds an item, and this is set aside for each
  abbrev pub HoldsItem :
      Partition K V C N O E P X Y Z → Partition K V C N O E P X Y Z → ℕ → K → Pending V → (K → List (Change K V)) → Type 0
  HoldsItem c d u k p ready = Changes c d u k (slot_held (slot_at c.items u k) p) (tally c.items.counts) ready []

  -- the end of the transaction that held an item made it what it was to be, and queued what was set aside for it
  abbrev pub SettlesItem : Partition K V C N O E P X Y Z → Partition K V C N O E P X Y Z → ℕ → K → Type 0
  SettlesItem c d u k =
      let old = slot_at c.items u k in
      let numbers = tally c.items.counts in
      Changes c d u k (slot_settled numbers old) (counted numbers old (image_of (pending_of old)) (stamp_of (pending_of old)))
      (set_at c k []) (prepared_in O.cmp c.prepared.lists k)

  -- or let it go
  abbrev pub ReleasesItem : Partition K V C N O E P X Y Z → Partition K V C N O E P X Y Z → ℕ → K → Type 0
  ReleasesItem c d u k = Changes c d u k (slot_let_go (slot_at c.items u k)) (tally c.items.counts) (set_at c k []) []

  -- these changes are what the end of the transaction that holds an item will queue, these entries it will move, and all else is
  -- as it was
  pub record SetsAside (c d : Partition K V C N O E P X Y Z) (k : K) (prepared : List (Change K V)) (moves : Moves N) : Type 0 where
    pub items : d.items ≡ c.items
    pub locals : d.locals ≡ c.locals
    pub prepared_are : (q : K) → prepared_in O.cmp d.prepared.lists q ≡ set_at c k prepared q
    pub moves_are :
        (q : K) → moves_in O.cmp d.prepared.lists q ≡ (if is_at (O.cmp k) q then moves else moves_in O.cmp c.prepared.lists q)
    pub waiting : d.outbox.waiting.items ≡ c.outbox.waiting.items
    pub beside : SameBeside c d

  -- nothing changes
  pub record Unchanged (c d : Partition K V C N O E P X Y Z) : Type 0 where
    pub slots : (v : ℕ) (q : K) → slot_at d.items v q ≡ slot_at c.items v q
    pub numbers : tally d.items.counts ≡ tally c.items.counts
    pub prepared : (q : K) → prepared_in O.cmp d.prepared.lists q ≡ prepared_in O.cmp c.prepared.lists q
    pub waiting : d.outbox.waiting.items ≡ c.outbox.waiting.items
    pub beside : SameBeside c d
