-- What a call changes in a store.
use Rattle.std.specs.Prelude.{◌≡◌, ◌+◌, ℕ, not, ◌&&◌, ◌||◌, Option, None, if◌then◌else◌}
use Rattle.std.specs.Ordering.{nat_cmp}
use Rattle.std.specs.BTreeMap.{BTreeMap, get, is_at}
use Rattle.std.specs.declared.cmp.Ord as ord
use Rattle.std.specs.declared.cmp.PartialEq as eq
use Rattle.std.specs.declared.cmp.PartialOrd as partial
use Rattle.txn_core.specs.declared.stamp.Stamp.{Stamp}
use Rattle.txn_core.specs.Stamps.{later}
use Rattle.txn_core.specs.State.{Tally}
use Rattle.item_store.specs.declared.slot.Slot.{Slot}
use Rattle.item_store.specs.declared.store.ItemStore.{ItemStore}
use Rattle.item_store.specs.declared.slot.End.{End}
use Rattle.item_store.specs.declared.slot.End.TheVariants.{Settle}
use Rattle.item_store.specs.Slots.{committed_at, counted, last_of, slot_of}
use Rattle.item_store.specs.Ends.{committed_after, counted_after}
use Rattle.item_store.specs.Tables.{PlacesUnder, Same, has_table, held_of, slot_under}
use Rattle.item_store.specs.Counts.{tally}

module _ {K V : Type 0} {O : ord.Ghosts K} {E : eq.Ghosts K} {P : partial.Ghosts K} where
  -- the slot of a key of a table
  abbrev pub slot_at : ItemStore K V O E P → ℕ → K → Option (Slot V)
  slot_at s u q = slot_under s.tables u q

  -- the key has this slot afterwards, each other one its own, and floor and numbers are these
  pub record Changes (s t : ItemStore K V O E P) (u : ℕ) (k : K) (new : Option (Slot V)) (counts : Tally) : Type 0 where
    pub places : PlacesUnder s.tables t.tables u k new
    pub counts_are : tally t.counts ≡ counts

  -- the item is committed at a stamp or at its later one, or where there is none, absent; and no transaction holds it
  abbrev pub Commits : ItemStore K V O E P → ItemStore K V O E P → ℕ → K → Option V → Stamp → Type 0
  Commits s t u k row own =
      let old = slot_at s u k in
      let before = tally s.counts in
      let new = committed_at row (later (last_of before.floor old) own) (before.count + 1) in
      Changes s t u k (slot_of new None) (counted before old row own)

  -- the transaction that holds an item ended so, and none holds it
  abbrev pub Ends : End → ItemStore K V O E P → ItemStore K V O E P → ℕ → K → Type 0
  Ends end s t u k =
      let old = slot_at s u k in
      let before = tally s.counts in
      Changes s t u k (slot_of (committed_after end before old) None) (counted_after end before old)

  -- a held item is as its transaction left it, at that one's stamp, and no transaction holds it
  abbrev pub Settles : ItemStore K V O E P → ItemStore K V O E P → ℕ → K → Type 0
  Settles s t u k = Ends Settle s t u k

  -- nothing changes
  pub record Unchanged (s t : ItemStore K V O E P) : Type 0 where
    pub same : Same s.tables t.tables
    pub counts : tally t.counts ≡ tally s.counts
    pub held : t.held ≡ s.held

  -- a table without items is there too, and all else is as it was
  pub record Opens (s t : ItemStore K V O E P) (u : ℕ) : Type 0 where
    pub slots : (v : ℕ) (q : K) → slot_at t v q ≡ slot_at s v q
    pub tables : (v : ℕ) → has_table t.tables v ≡ (is_at (nat_cmp u) v || has_table s.tables v)
    pub counts : tally t.counts ≡ tally s.counts
    pub held : t.held ≡ s.held

  -- a table is gone with its items, also those that were held, and all else is as it was
  pub record Closes (s t : ItemStore K V O E P) (u : ℕ) : Type 0 where
    pub slots : (v : ℕ) (q : K) → slot_at t v q ≡ (if is_at (nat_cmp u) v then None else slot_at s v q)
    pub tables : (v : ℕ) → has_table t.tables v ≡ (not (is_at (nat_cmp u) v) && has_table s.tables v)
    pub counts : tally t.counts ≡ tally s.counts
    pub held : t.held + held_of (get nat_cmp s.tables u) ≡ s.held

  -- a table has these items in place of those that it had, and all else is as it was
  pub record Fills (s t : ItemStore K V O E P) (u : ℕ) (slots : BTreeMap K (Slot V)) : Type 0 where
    pub slots_are : (v : ℕ) (q : K) → slot_at t v q ≡ (if is_at (nat_cmp u) v then get O.cmp slots q else slot_at s v q)
    pub tables : (v : ℕ) → has_table t.tables v ≡ has_table s.tables v
    pub counts : tally t.counts ≡ tally s.counts

  -- one change more is counted, and all else is as it was
  pub record CountsOne (s t : ItemStore K V O E P) : Type 0 where
    pub tables : t.tables ≡ s.tables
    pub counts : tally t.counts ≡ record (tally s.counts) { count = s.counts.count + 1 }
    pub held : t.held ≡ s.held
