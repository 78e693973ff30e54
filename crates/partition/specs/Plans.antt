-- A command of the catalog that a cell has planned, and what is left of the cell when it is carried out.
use Rattle.std.specs.Prelude.{◌≡◌, ℕ, ◌+◌, ◌<◌, ◌^◌, true, ◌++◌, nat_eq, is_some, List, Option, None, Some, if◌then◌else◌}
use Rattle.std.specs.Ordering.{nat_cmp}
use Rattle.std.specs.BTreeMap.{BTreeMap, get}
use Rattle.std.specs.declared.cmp.Ord as ord
use Rattle.std.specs.declared.cmp.PartialEq as eq
use Rattle.std.specs.declared.cmp.PartialOrd as partial
use Rattle.txn_core.specs.Service.{Service}
use Rattle.txn_core.specs.State.{tally_changed}
use Rattle.item_store.specs.declared.slot.Slot.{Slot}
use Rattle.item_store.specs.Changes.{slot_at}
use Rattle.item_store.specs.Counts.{tally}
use Rattle.global_index.specs.Rows.{row_under}
use Rattle.local_index.specs.declared.claim.Claim.{Claim}
use Rattle.local_index.specs.Tables.{claim_under}
use Rattle.index_changes.specs.declared.command_rules.TableChange.{TableChange}
use Rattle.index_changes.specs.declared.command_rules.TableChange.TheVariants.{Makes}
use Rattle.index_changes.specs.declared.plan.CatalogPlan.{CatalogPlan}
use Rattle.index_changes.specs.declared.plan.MadeTable.{MadeTable}
use Rattle.index_changes.specs.Commands.{is_in, is_number}
use Rattle.index_changes.specs.Entering.{AreEntered}
use Rattle.index_changes.specs.Entries.{LocalEntries}
use Rattle.index_changes.specs.Plans.{IsPlan}
use Rattle.partition.specs.declared.cell.Partition.{Partition}

-- a table that a change makes has a place among these
abbrev pub IsPlaced : {T : Type 0} → TableChange → BTreeMap ℕ T → Type 0
IsPlaced (Makes n) tables = is_some (get nat_cmp tables n) ≡ true
IsPlaced _ tables = Unit {0}

module _
    {K V N : Type 0} {O : ord.Ghosts K} {E : eq.Ghosts K} {P : partial.Ghosts K}
    {X : ord.Ghosts N} {Y : eq.Ghosts N} {Z : partial.Ghosts N} where
  -- the slot of an item where a table that is made has its place
  abbrev pub filled : Option (MadeTable K V N O E P X Y Z) → ℕ → K → Option (Slot V) → Option (Slot V)
  filled None u q old = old
  filled (Some made) u q old = if nat_eq made.number u then get O.cmp made.items.slots q else old

  -- and the claim of a local entry
  abbrev pub entered : Option (MadeTable K V N O E P X Y Z) → ℕ → N → Option Claim → Option Claim
  entered None u q old = old
  entered (Some made) u q old = if nat_eq made.number u then get X.cmp made.entries q else old

  -- the table that is made has a place among these
  abbrev pub HasPlace : {T : Type 0} → BTreeMap ℕ T → Option (MadeTable K V N O E P X Y Z) → Type 0
  HasPlace tables None = Unit {0}
  HasPlace tables (Some made) = is_some (get nat_cmp tables made.number) ≡ true

module _
    {K V A F C D Q B N : Type 0} (S : Service K V A F C D Q B) (L : LocalEntries K V C N) (target : D → C → TableChange)
    (numbers : C → ℕ → List ℕ) {O : ord.Ghosts K} {E : eq.Ghosts K} {P : partial.Ghosts K}
    {X : ord.Ghosts N} {Y : eq.Ghosts N} {Z : partial.Ghosts N} where
  -- the cell i has planned the command, with places for a table that it makes and for the local entries of that
  abbrev pub IsPlanned : ℕ → Partition K V C N O E P X Y Z → D → ℕ → Type 0
  IsPlanned i c d moment =
      (p : CatalogPlan K V C N O E P X Y Z) × (c.planned ≡ Some p) × IsPlan S target numbers i c.catalog c.items d moment p
      × IsPlaced (target d c.catalog) c.items.tables × IsPlaced (target d c.catalog) c.locals.tables × AreEntered L p.catalog p.made

module _
    {K V C N : Type 0} {O : ord.Ghosts K} {E : eq.Ghosts K} {P : partial.Ghosts K}
    {X : ord.Ghosts N} {Y : eq.Ghosts N} {Z : partial.Ghosts N} where
  -- a number is left for the change, and a table that is made has its places
  pub record HasRoom (c : Partition K V C N O E P X Y Z) (p : CatalogPlan K V C N O E P X Y Z) : Type 0 where
    pub number : c.items.counts.count + c.items.held + 1 < 2 ^ 64
    pub place : HasPlace c.items.tables p.made
    pub entries : HasPlace c.locals.tables p.made

  -- the plan is carried out
  pub record LeftByPlan (c d : Partition K V C N O E P X Y Z) (p : CatalogPlan K V C N O E P X Y Z) : Type 0 where
    pub partitions : d.partitions ≡ c.partitions
    pub catalog : d.catalog ≡ p.catalog
    pub slots : (u : ℕ) (q : K) → slot_at d.items u q ≡ (if is_number p.dropped u then None else filled p.made u q (slot_at c.items u q))
    pub numbers : tally d.items.counts ≡ tally_changed (tally c.items.counts)
    pub entries :
        (u : ℕ) (q : N) → claim_under X.cmp d.locals.tables u q
        ≡ (if is_number p.dropped u then None else entered p.made u q (claim_under X.cmp c.locals.tables u q))
    pub prepared : d.prepared ≡ c.prepared
    pub waiting : d.outbox.waiting.items ≡ c.outbox.waiting.items ++ p.changes.items
    pub sent : d.outbox.sent ≡ c.outbox.sent
    pub marks : d.marks ≡ c.marks
    pub rows :
        (g : ℕ) (q : K) → row_under O.cmp d.rows.indexes g q
        ≡ (if is_in p.closed.items g then None else row_under O.cmp c.rows.indexes g q)

  -- nothing changes but what is planned
  pub record SameButPlan (c d : Partition K V C N O E P X Y Z) : Type 0 where
    pub partitions : d.partitions ≡ c.partitions
    pub catalog : d.catalog ≡ c.catalog
    pub items : d.items ≡ c.items
    pub locals : d.locals ≡ c.locals
    pub prepared : d.prepared ≡ c.prepared
    pub waiting : d.outbox.waiting.items ≡ c.outbox.waiting.items
    pub sent : d.outbox.sent ≡ c.outbox.sent
    pub marks : d.marks ≡ c.marks
    pub rows : d.rows ≡ c.rows
