-- The expired items of a cell that no transaction holds.
use Rattle.std.specs.Prelude.{◌≡◌, ℕ, Bool, false, not, ◌&&◌, List, map, filter, take, Option, None, Some, is_some}
use Rattle.std.specs.List.{flat_map}
use Rattle.std.specs.BTreeMap.{BTreeMap}
use Rattle.std.specs.declared.cmp.Ord as ord
use Rattle.std.specs.declared.cmp.PartialEq as eq
use Rattle.std.specs.declared.cmp.PartialOrd as partial
use Rattle.index_feed.specs.Feed.{Each, Feed, items_in}
use Rattle.txn_core.specs.declared.answer.Answer.{Answer}
use Rattle.txn_core.specs.Indexing.{indexed}
use Rattle.txn_core.specs.Legal.{due_among}
use Rattle.txn_core.specs.Service.{Service, Reply}
use Rattle.txn_core.specs.State.{State}
use Rattle.item_store.specs.declared.slot.Committed.{Committed}
use Rattle.item_store.specs.declared.slot.Slot.{Slot}
use Rattle.item_store.specs.declared.table.TableItems.{TableItems}
use Rattle.partition.specs.declared.cell.Partition.{Partition}
use Rattle.partition.specs.Holds.{Holds}
use Rattle.partition.specs.Listed.{ListsAll}

-- the answer to an expiration that found this item and removed it
abbrev pub removal_answer : {K V A F B : Type 0} → Option V → Answer K V A F B
removal_answer None = Answer.Kept
removal_answer (Some old) = Answer.Expired old

module _ {K V A F C D Q B : Type 0} (S : Service K V A F C D Q B) where
  -- the committed item of a key is there, and expired
  abbrev pub is_over : C → ℕ → K → Option (Committed V) → Bool
  is_over cat moment k None = false
  is_over cat moment k (Some x) = S.core.expired cat k x.item moment

  -- and no transaction holds it
  abbrev pub is_due_slot : C → ℕ → K × Slot V → Bool
  is_due_slot cat moment e = is_over cat moment e.0 e.1.committed && not (is_some e.1.pending)

  -- the keys of those of a table, in their order
  abbrev pub due_in : C → ℕ → List (K × Slot V) → List K
  due_in cat moment slots = map (λ e. e.0) (filter (λ e. is_due_slot cat moment e) slots)

  -- the keys are all of the table of this number
  abbrev pub AreOfTable : ℕ → List (K × Slot V) → Type 0
  AreOfTable u slots = Each (λ e. S.core.table e.0 ≡ u) slots

  module _ {O : ord.Ghosts K} {E : eq.Ghosts K} {P : partial.Ghosts K} where
    -- the keys of those of all tables
    abbrev pub due_of_all : C → ℕ → BTreeMap ℕ (TableItems K V O E P) → List K
    due_of_all cat moment tables = flat_map (λ t. due_in cat moment t.1.slots.entries) tables.entries

    -- each table has keys of its own
    abbrev pub AreAtHome : List (ℕ × TableItems K V O E P) → Type 0
    AreAtHome tables = Each (λ t. AreOfTable t.0 t.1.slots.entries) tables

    module _ {N : Type 0} {X : ord.Ghosts N} {Y : eq.Ghosts N} {Z : partial.Ghosts N} where
      -- of every state and feed that the cell i holds, where the feed lists all that is there, the answer lists as many as asked of
      -- the items that are expired and that no transaction holds
      abbrev pub SaysExpired : ℕ → Partition K V C N O E P X Y Z → ℕ → ℕ → Reply S → Type 0
      SaysExpired i c moment limit a =
          (w : State K V A C) (f : Feed K V C) → Holds S i c w f → ListsAll (indexed S.core S.index) i f
          → a ≡ Answer.ExpiredList (take limit (due_among S w moment (items_in (indexed S.core S.index) f i)))
