-- What a command of the catalog will do to a cell.
use Rattle.std.specs.Prelude.{◌≡◌, ℕ, ◌+◌, ◌<◌, ◌^◌, Bool, not, ◌&&◌, nat_eq, List, [], Option, None, Some, if◌then◌else◌}
use Rattle.std.specs.List.{flat_map, list_any}
use Rattle.std.specs.Ordering.{nat_cmp}
use Rattle.std.specs.BTreeMap.{BTreeMap, IsOrdered, get}
use Rattle.std.specs.declared.cmp.Ord as ord
use Rattle.std.specs.declared.cmp.PartialEq as eq
use Rattle.std.specs.declared.cmp.PartialOrd as partial
use Rattle.index_feed.specs.declared.change.Change.{Change}
use Rattle.index_feed.specs.Feed.{founding}
use Rattle.txn_core.specs.declared.stamp.Stamp.{Stamp}
use Rattle.txn_core.specs.Indexing.{indexed}
use Rattle.txn_core.specs.Service.{Service}
use Rattle.txn_core.specs.Stamps.{later, single}
use Rattle.item_store.specs.declared.slot.Slot.{Slot}
use Rattle.item_store.specs.declared.store.ItemStore.{ItemStore}
use Rattle.item_store.specs.declared.table.TableItems.{TableItems}
use Rattle.item_store.specs.Slots.{committed_at, row_of, slot_of}
use Rattle.index_changes.specs.declared.command_rules.TableChange.{TableChange}
use Rattle.index_changes.specs.declared.command_rules.TableChange.TheVariants.{Makes, Alters}
use Rattle.index_changes.specs.declared.plan.CatalogPlan.{CatalogPlan}
use Rattle.index_changes.specs.declared.plan.MadeTable.{MadeTable}
use Rattle.index_changes.specs.Commands.{dropped_by, is_in, subject, without}

module _ {K V : Type 0} {O : ord.Ghosts K} {E : eq.Ghosts K} {P : partial.Ghosts K} where
  -- what is kept in a table, where it has a place
  abbrev pub slots_of : Option (TableItems K V O E P) → List (K × Slot V)
  slots_of None = []
  slots_of (Some items) = items.slots.entries

  abbrev pub IsRising : Option (TableItems K V O E P) → Type 0
  IsRising None = Unit {0}
  IsRising (Some items) = IsOrdered O.cmp items.slots

  -- where a table is altered, its items are in the order of their keys
  abbrev pub IsOrderedFor : TableChange → BTreeMap ℕ (TableItems K V O E P) → Type 0
  IsOrderedFor (Alters u) tables = IsRising (get nat_cmp tables u)
  IsOrderedFor _ tables = Unit {0}

module _
    {K V N : Type 0} {O : ord.Ghosts K} {E : eq.Ghosts K} {P : partial.Ghosts K}
    {X : ord.Ghosts N} {Y : eq.Ghosts N} {Z : partial.Ghosts N} where
  abbrev pub slots_made : Option (MadeTable K V N O E P X Y Z) → List (K × Slot V)
  slots_made None = []
  slots_made (Some made) = made.items.slots.entries

  -- the items that come with a table are these, in the order of their keys
  pub record IsMadeOf (n : ℕ) (slot : K → Option (Slot V)) (made : MadeTable K V N O E P X Y Z) : Type 0 where
    pub number : made.number ≡ n
    pub slots : (q : K) → get O.cmp made.items.slots q ≡ slot q
    pub order : IsOrdered O.cmp made.items.slots

  -- the table that is made, where one is
  abbrev pub IsMade : TableChange → (K → Option (Slot V)) → Option (MadeTable K V N O E P X Y Z) → Type 0
  IsMade (Makes n) slot (Some made) = IsMadeOf n slot made
  IsMade (Makes n) slot None = ⊥
  IsMade _ slot (Some made) = ⊥
  IsMade _ slot None = Unit {0}

module _ {C : Type 0} (numbers : C → ℕ → List ℕ) where
  -- the numbers of the indexes that go
  abbrev pub closed_by : Option ℕ → C → C → List ℕ
  closed_by None c next = []
  closed_by (Some u) c next = without (numbers next u) (numbers c u)

  -- a table gets an index that it did not have
  abbrev pub has_new : ℕ → C → C → Bool
  has_new u c next = list_any (λ g. not (is_in (numbers c u) g)) (numbers next u)

module _ {K V A F C D Q B : Type 0} (S : Service K V A F C D Q B) where
  -- what the items of a table queue for the indexes that are new
  abbrev pub founding_at : C → C → K × Slot V → List (Change K V)
  founding_at c next e = founding (indexed S.core S.index) c next e.0 (row_of (Some e.1))

  abbrev pub founding_in : C → C → List (K × Slot V) → List (Change K V)
  founding_in c next es = flat_map (founding_at c next) es

  -- the slot of an item that a command brings to the cell i with a new table
  abbrev pub brought : ℕ → D → C → C → Stamp → ℕ → K → Option (Slot V)
  brought i d c next stamp version q =
      if nat_eq (S.core.cell_of q) i && (not (S.core.there c q) && S.core.there next q)
      then slot_of (committed_at (S.core.adds d c q) stamp version) None else None

  -- what the items of a table that is altered queue: nothing, where no index is new
  abbrev pub queued_in :
      (numbers : C → ℕ → List ℕ) {O : ord.Ghosts K} {E : eq.Ghosts K} {P : partial.Ghosts K} → ℕ → C → C
      → BTreeMap ℕ (TableItems K V O E P) → List (Change K V)
  queued_in numbers u c next tables = if has_new numbers u c next then founding_in c next (slots_of (get nat_cmp tables u)) else []

  module _
      (numbers : C → ℕ → List ℕ) {N : Type 0} {O : ord.Ghosts K} {E : eq.Ghosts K} {P : partial.Ghosts K}
      {X : ord.Ghosts N} {Y : eq.Ghosts N} {Z : partial.Ghosts N} where
    -- what is queued, by what the command does to its table
    abbrev pub queued_for :
        TableChange → C → C → BTreeMap ℕ (TableItems K V O E P) → Option (MadeTable K V N O E P X Y Z) → List (Change K V)
    queued_for (Makes u) c next tables made = founding_in c next (slots_made made)
    queued_for (Alters u) c next tables made = queued_in numbers u c next tables
    queued_for _ c next tables made = []

  module _
      (target : D → C → TableChange) (numbers : C → ℕ → List ℕ) {N : Type 0} {O : ord.Ghosts K} {E : eq.Ghosts K} {P : partial.Ghosts K}
      {X : ord.Ghosts N} {Y : eq.Ghosts N} {Z : partial.Ghosts N} where
    -- the plan is what the command does at a moment to the cell i that has this catalog and these items
    pub record IsPlan
        (i : ℕ) (c : C) (items : ItemStore K V O E P) (d : D) (moment : ℕ) (p : CatalogPlan K V C N O E P X Y Z) : Type 0 where
      pub catalog : p.catalog ≡ S.core.change d moment c
      pub dropped : p.dropped ≡ dropped_by (target d c)
      pub closed : p.closed.items ≡ closed_by numbers (subject (target d c)) c p.catalog
      pub number : items.counts.count + items.held + 1 < 2 ^ 64
      pub made :
          IsMade (target d c)
          (brought i d c p.catalog (later items.counts.floor (single moment)) (items.counts.count + 1)) p.made
      pub order : IsOrderedFor (target d c) items.tables
      pub changes : p.changes.items ≡ queued_for numbers (target d c) c p.catalog items.tables p.made
