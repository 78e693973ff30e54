-- For which entries the value of a cell stands.
use Rattle.std.specs.Prelude.{◌≡◌, ℕ, ◌<◌}
use Rattle.std.specs.declared.cmp.Ord as ord
use Rattle.std.specs.declared.cmp.PartialEq as eq
use Rattle.std.specs.declared.cmp.PartialOrd as partial
use Rattle.txn_core.specs.Service.{Service, History}
use Rattle.partition.specs.declared.cell.Partition.{Partition}
use Rattle.index_changes.specs.Entries.{LocalEntries}
use Rattle.partition.specs.InStep.{IsInStep}
use Rattle.partition.specs.Says.{Stands}
use Rattle.control_cell.specs.declared.cell.ControlCell.{ControlCell}
use Rattle.control_cell.specs.Holding.{Holds}
use Rattle.cluster.specs.declared.cell.ClusterCell.{ClusterCell}

module _ {P L : Type 0} where
  abbrev pub IsPartition : ClusterCell P L → Type 0
  IsPartition (ClusterCell.Partition p) = Unit {0}
  IsPartition (ClusterCell.Control c) = ⊥

  -- the cell i is of the kind that is there, where the control cell has this number
  abbrev pub IsInPlace : ℕ → ℕ → ClusterCell P L → Type 0
  IsInPlace control i (ClusterCell.Partition p) = i < control
  IsInPlace control i (ClusterCell.Control c) = i ≡ control

module _
    {R K V A F C D Q B N : Type 0} (S : Service K V A F C D Q B) (L : LocalEntries K V C N)
    {O : ord.Ghosts K} {E : eq.Ghosts K} {P : partial.Ghosts K} {X : ord.Ghosts N} {Y : eq.Ghosts N} {Z : partial.Ghosts N} where
  -- the value is, as the cell i, what these entries make of it, the newest first, and a partition's local entries are in step with
  -- its items: the control cell comes after the partitions
  abbrev pub StandsFor : ℕ → ClusterCell (Partition K V C N O E P X Y Z) (ControlCell R K V A F C D Q B) → History S → Type 0
  StandsFor i (ClusterCell.Partition p) es = (i < S.control) × Stands S i p es × IsInStep S L p
  StandsFor i (ClusterCell.Control c) es = (i ≡ S.control) × Holds S es c
