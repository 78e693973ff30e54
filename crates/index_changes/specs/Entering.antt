-- The local entries of the items that come with a table.
use Rattle.std.specs.Prelude.{◌≡◌, false, Option, None, Some}
use Rattle.std.specs.BTreeMap.{BTreeMap, get}
use Rattle.std.specs.declared.cmp.Ordering.{Ordering}
use Rattle.std.specs.declared.cmp.Ord as ord
use Rattle.std.specs.declared.cmp.PartialEq as eq
use Rattle.std.specs.declared.cmp.PartialOrd as partial
use Rattle.item_store.specs.declared.slot.Slot.{Slot}
use Rattle.item_store.specs.Slots.{row_of}
use Rattle.local_index.specs.declared.claim.Claim.{Claim}
use Rattle.local_index.specs.Claims.{claim_of}
use Rattle.local_index.specs.Entries.{is_among}
use Rattle.index_changes.specs.declared.plan.MadeTable.{MadeTable}
use Rattle.index_changes.specs.Entries.{LocalEntries, entries_at}

module _ {K V C N : Type 0} (L : LocalEntries K V C N) where
  -- the entries that are there are exactly those of a table's committed items, each committed: of the item that it names
  abbrev pub AreCommittedOf :
      (K → K → Ordering) → (N → N → Ordering) → C → BTreeMap K (Slot V) → BTreeMap N Claim → Type 0
  AreCommittedOf by cmp cat slots entries =
      (q : N)
      → get cmp entries q ≡ claim_of (is_among cmp (entries_at L cat (L.item q) (row_of (get by slots (L.item q)))) q) false

  module _
      {O : ord.Ghosts K} {E : eq.Ghosts K} {P : partial.Ghosts K} {X : ord.Ghosts N} {Y : eq.Ghosts N} {Z : partial.Ghosts N} where
    -- the entries that come with a table, where one is made, are those of the items that do, under the catalog afterwards
    abbrev pub AreEntered : C → Option (MadeTable K V N O E P X Y Z) → Type 0
    AreEntered next None = Unit {0}
    AreEntered next (Some made) = AreCommittedOf O.cmp X.cmp next made.items.slots made.entries
