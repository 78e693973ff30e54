-- A command, which is one event over all cells: what each cell tells of it and does in it.
use Rattle.std.specs.Prelude.{◌≡◌, ℕ, ◌<◌, ◌≤◌, List, ◌∷◌, Option, None, Some, MatchOption, Box, reverse, slice_get}
use Rattle.std.specs.declared.cmp.Ord as ord
use Rattle.std.specs.declared.cmp.PartialEq as eq
use Rattle.std.specs.declared.cmp.PartialOrd as partial
use Rattle.turnstile.specs.Passes.{PassView, TurnstileView}
use Rattle.txn_core.specs.declared.message.Message.{Message}
use Rattle.txn_core.specs.Service.{Service, Reply, Event, History}
use Rattle.txn_core.specs.State.{State}
use Rattle.txn_core.specs.Legal.{state, IsLegal}
use Rattle.txn_core.specs.Cells.{of_cell, IsClearThere, IsFirstHolder}
use Rattle.partition.specs.declared.cell.Partition.{Partition}
use Rattle.index_changes.specs.Entries.{LocalEntries}
use Rattle.index_changes.specs.declared.command_rules.TableChange.{TableChange}
use Rattle.partition.specs.Carrying.{IsCarriedOut}
use Rattle.partition.specs.Plans.{IsPlanned}
use Rattle.control_cell.specs.declared.cell.ControlCell.{ControlCell}
use Rattle.control_cell.specs.declared.commands.CatalogPlan.{CatalogPlan}
use Rattle.control_cell.specs.Holding.{IsEntry}
use Rattle.control_cell.specs.Plans.{IsPlan}
use Rattle.cluster.specs.declared.cell.ClusterCell.{ClusterCell}
use Rattle.cluster.specs.Standing.{StandsFor}
use Rattle.cluster.specs.Steps.{partitions_of}

-- this holds of each of them at its place
abbrev pub EachSo : {X : Type 0} → List X → (ℕ → X → Type 0) → Type 0
EachSo {X} xs T = (i : ℕ) (x : X) → slice_get xs i ≡ Some x → T i x

module _ {P L : Type 0} where
  abbrev pub IsControl : ClusterCell P L → Type 0
  IsControl (ClusterCell.Partition p) = ⊥
  IsControl (ClusterCell.Control c) = Unit {0}

module _ {K V A F C D Q B : Type 0} (S : Service K V A F C D Q B) where
  -- what the cell's own entries make of the state
  abbrev pub own : History S → ℕ → State K V A C
  own es i = state S (of_cell i es)

  -- the catalog that the control cell has after what the pass has seen
  abbrev pub catalog_seen_by : TurnstileView → PassView (Event S) → C
  catalog_seen_by t p = (own (reverse p.front) (partitions_of t)).catalog

  -- and the one that the command makes of it at the moment of the pass
  abbrev pub catalog_made_by : TurnstileView → PassView (Event S) → D → C
  catalog_made_by t p d = S.core.change d p.moment (catalog_seen_by t p)

  -- the least number, in the first cell that has one, of those that hold an item of the command's table; none, where no cell has
  abbrev pub TellsFirst : (ℕ → State K V A C) → D → Option ℕ → Type 0
  TellsFirst at d None = (j : ℕ) → IsClearThere S (at j) d j
  TellsFirst at d (Some n) = (i : ℕ) × IsFirstHolder S (at i) d i n × ((j : ℕ) → j < i → IsClearThere S (at j) d j)

module _
    {R K V A F C D Q B N : Type 0} (S : Service K V A F C D Q B) (L : LocalEntries K V C N)
    {O : ord.Ghosts K} {E : eq.Ghosts K} {P : partial.Ghosts K} {X : ord.Ghosts N} {Y : eq.Ghosts N} {Z : partial.Ghosts N} where
  -- of all entries for which the cell stands, the plan is what their catalog says of the command
  pub record TellsPlan
      (c : ClusterCell (Partition K V C N O E P X Y Z) (ControlCell R K V A F C D Q B)) (d : D) (moment : ℕ) (plan : CatalogPlan B C)
      : Type 0 where
    pub tells : (i : ℕ) (es : History S) → StandsFor S L i c es → IsPlan S (state S es).catalog d moment plan

  -- of a partition: and this is the least number of those that hold an item of the command's table in the cell
  pub record TellsHolding (c : ClusterCell (Partition K V C N O E P X Y Z) (ControlCell R K V A F C D Q B)) (d : D) (holder : Option ℕ) : Type 0 where
    pub tells :
        (i : ℕ) (es : History S) → i < S.control → StandsFor S L i c es
        → MatchOption holder (IsClearThere S (state S es) d i) (λ n. IsFirstHolder S (state S es) d i n)

  -- the value stands for all that it stood for
  pub record KeepsAll (c d : ClusterCell (Partition K V C N O E P X Y Z) (ControlCell R K V A F C D Q B)) : Type 0 where
    pub keeps : (i : ℕ) (es : History S) → StandsFor S L i c es → StandsFor S L i d es

  -- with this catalog the control cell stands with the entry of the command that makes it
  pub record TakesCatalog
      (old new : ClusterCell (Partition K V C N O E P X Y Z) (ControlCell R K V A F C D Q B)) (moment : ℕ) (next : C)
      : Type 0 where
    pub takes :
        (i : ℕ) (es : History S) (e : Event S) (d : D) → i ≡ S.control → next ≡ S.core.change d moment (own S es i).catalog
        → IsCarriedOut S moment d e → IsLegal S (e ∷ es) → StandsFor S L i old (of_cell i es) → StandsFor S L i new (of_cell i (e ∷ es))

  module _ (target : D → C → TableChange) (numbers : C → ℕ → List ℕ) where
    -- the cell i, where it is a partition, has planned the command
    abbrev pub HasPlanned : ℕ → ClusterCell (Partition K V C N O E P X Y Z) (ControlCell R K V A F C D Q B) → D → ℕ → Type 0
    HasPlanned i (ClusterCell.Partition p) d moment = IsPlanned S L target numbers i p d moment
    HasPlanned i (ClusterCell.Control c) d moment = Unit {0}

    -- a partition that had planned a command stands with the command's entry
    pub record CarriesPlanned (old new : ClusterCell (Partition K V C N O E P X Y Z) (ControlCell R K V A F C D Q B)) (moment : ℕ) : Type 0 where
      pub carries :
          (i : ℕ) (es : History S) (e : Event S) (d : D) → i < S.control → HasPlanned i old d moment → IsCarriedOut S moment d e
          → IsLegal S (e ∷ es) → StandsFor S L i old (of_cell i es) → StandsFor S L i new (of_cell i (e ∷ es))

  module _ {G : Type 0} where
    -- each cell stands for its entries of the history
    pub record AllStand (cells : List (Box (ClusterCell (Partition K V C N O E P X Y Z) (ControlCell R K V A F C D Q B)) G)) (es : History S) : Type 0 where
      pub each : EachSo cells (λ i b. StandsFor S L i b.value (of_cell i es))

    -- each does so with each entry that carries the command out
    pub record AllStandAfter
        (cells : List (Box (ClusterCell (Partition K V C N O E P X Y Z) (ControlCell R K V A F C D Q B)) G)) (es : History S) (d : D) (moment : ℕ)
        : Type 0 where
      pub after : (e : Event S) → IsCarriedOut S moment d e → IsLegal S (e ∷ es) → AllStand cells (e ∷ es)

    -- each does so with the command's entry of this answer
    pub record AllStandWith
        (cells : List (Box (ClusterCell (Partition K V C N O E P X Y Z) (ControlCell R K V A F C D Q B)) G)) (es : History S) (d : D) (moment : ℕ)
        (a : Reply S)
        : Type 0 where
      pub after : (e : Event S) → IsEntry S moment (Message.Command d) a e → IsLegal S (e ∷ es) → AllStand cells (e ∷ es)

    module _ (target : D → C → TableChange) (numbers : C → ℕ → List ℕ) where
      -- the cells before the k-th have planned the command
      pub record PlannedBefore
          (k : ℕ) (cells : List (Box (ClusterCell (Partition K V C N O E P X Y Z) (ControlCell R K V A F C D Q B)) G)) (d : D) (moment : ℕ)
          : Type 0 where
        pub each : EachSo cells (λ i b. i < k → HasPlanned target numbers i b.value d moment)

      -- the cells before the k-th stand with each entry that carries the command out, the others for their entries before it,
      -- with the command planned
      pub record CarriedBefore
          (k : ℕ) (cells : List (Box (ClusterCell (Partition K V C N O E P X Y Z) (ControlCell R K V A F C D Q B)) G)) (es : History S) (d : D) (moment : ℕ)
          : Type 0 where
        pub carried :
            EachSo cells (λ i b. i < k → (e : Event S) → IsCarriedOut S moment d e → IsLegal S (e ∷ es) → StandsFor S L i b.value (of_cell i (e ∷ es)))
        pub ready : EachSo cells (λ i b. k ≤ i → StandsFor S L i b.value (of_cell i es) × HasPlanned target numbers i b.value d moment)
