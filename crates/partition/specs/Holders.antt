-- Who holds an item of a command's table in a cell.
use Rattle.std.specs.Prelude.{ℕ, min, List, [], ◌∷◌, Option, None, Some, MatchOption}
use Rattle.std.specs.declared.cmp.Ord as ord
use Rattle.std.specs.declared.cmp.PartialEq as eq
use Rattle.std.specs.declared.cmp.PartialOrd as partial
use Rattle.index_feed.specs.Feed.{Feed}
use Rattle.txn_core.specs.Service.{Service}
use Rattle.txn_core.specs.State.{State}
use Rattle.txn_core.specs.Cells.{IsClearThere, IsFirstHolder}
use Rattle.item_store.specs.declared.slot.Slot.{Slot}
use Rattle.item_store.specs.Slots.{number_of}
use Rattle.partition.specs.declared.cell.Partition.{Partition}
use Rattle.partition.specs.Holds.{Holds}

-- the lesser of two numbers, where there are any
abbrev pub lesser : Option ℕ → Option ℕ → Option ℕ
lesser None other = other
lesser (Some a) None = Some a
lesser (Some a) (Some b) = Some (min a b)

-- the least number of those that hold one of these items
abbrev pub least_in : {K V : Type 0} → List (K × Slot V) → Option ℕ
least_in [] = None
least_in (e ∷ es) = lesser (number_of e.1.pending) (least_in es)

module _ {K V A F C D Q B : Type 0} (S : Service K V A F C D Q B) {O : ord.Ghosts K} {E : eq.Ghosts K} {P : partial.Ghosts K} {N : Type 0} {X : ord.Ghosts N} {Y : eq.Ghosts N} {Z : partial.Ghosts N} where
  -- of every state that the cell i holds this is the least number of those that hold an item of the command's table there
  abbrev pub TellsHolder : ℕ → Partition K V C N O E P X Y Z → D → Option ℕ → Type 0
  TellsHolder i c d holder =
      (w : State K V A C) (f : Feed K V C) → Holds S i c w f
      → MatchOption holder (IsClearThere S w d i) (λ n. IsFirstHolder S w d i n)
