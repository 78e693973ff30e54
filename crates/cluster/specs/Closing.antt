-- What is left where a cluster is closed.
use Rattle.std.specs.Prelude.{◌≡◌, ℕ, [], List, Some, reverse, slice_get}
use Rattle.std.specs.declared.cmp.Ord as ord
use Rattle.std.specs.declared.cmp.PartialEq as eq
use Rattle.std.specs.declared.cmp.PartialOrd as partial
use Rattle.turnstile.specs.Histories.{Trail}
use Rattle.turnstile.specs.Passes.{PassView}
use Rattle.txn_core.specs.Service.{Service, Event, History}
use Rattle.txn_core.specs.Cells.{of_cell}
use Rattle.partition.specs.declared.cell.Partition.{Partition}
use Rattle.partition.specs.Says.{Stands}
use Rattle.control_cell.specs.declared.cell.ControlCell.{ControlCell}
use Rattle.control_cell.specs.Holding.{Holds}
use Rattle.cluster.specs.Events.{pass_of}
use Rattle.cluster.specs.World.{IsLegalLog}

module _ {R K V A F C D Q B : Type 0} (S : Service K V A F C D Q B) {O : ord.Ghosts K} {E : eq.Ghosts K} {P : partial.Ghosts K} {N : Type 0} {X : ord.Ghosts N} {Y : eq.Ghosts N} {Z : partial.Ghosts N} where
  -- there is one legal history that begins with each pass's front and has no own entry past it; each partition is what its
  -- entries make of the cell of its place, and so is the control cell
  pub record AreAfterAll
      (passes : List (PassView (Event S))) (partitions : List (Partition K V C N O E P X Y Z)) (control : ControlCell R K V A F C D Q B)
      : Type 0 where
    pub log : History S
    pub legal : IsLegalLog S log
    pub fronts : (i : ℕ) (p : PassView (Event S)) → slice_get passes i ≡ Some p → Trail pass_of p.number p.front [] log
    pub partitions_stand :
        (i : ℕ) (x : Partition K V C N O E P X Y Z) → slice_get partitions i ≡ Some x → Stands S i x (of_cell i (reverse log))
    pub control_holds : Holds S (of_cell S.control (reverse log)) control
