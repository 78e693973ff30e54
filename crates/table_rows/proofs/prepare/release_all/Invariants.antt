use Rattle.std.proofs.Common.{◌≡◌, length}
use Rattle.table_rows.specs.Slots.{rows_of}
use Rattle.table_rows.specs.State.{AreDistinct, AreInStep}
use Rattle.table_rows.proofs.prepare.release_all.Given as goal

abbrev pub invariant-loop-change : goal.invariant-loop-change
invariant-loop-change l = record {
  distinct : AreDistinct l.pending;
  slots : AreInStep l.slots l.pending;
  rows : rows_of l.slots ≡ rows_of l.fn.slots;
}

abbrev pub decreases-loop-change : goal.decreases-loop-change
decreases-loop-change l = length l.pending
