use Rattle.std.specs.List.Sorted.{IsStrictlySortedBy}
use Rattle.std.specs.Map.{keys_of}
use Rattle.std.proofs.Common.{◌≡◌, length}
use Rattle.row_keys.specs.Keys.{row_order}
use Rattle.table_rows.specs.View.{committed}
use Rattle.table_rows.specs.Slots.{rows_of}
use Rattle.table_rows.specs.State.{AreDistinct, AreInStep}
use Rattle.table_rows.proofs.prepare.make_all.Given as goal

abbrev pub invariant-loop-change : goal.invariant-loop-change
invariant-loop-change l = record {
  ordered : IsStrictlySortedBy row_order (keys_of (rows_of l.slots));
  distinct : AreDistinct l.pending;
  slots : AreInStep l.slots l.pending;
  rows : committed (rows_of l.slots) l.pending ≡ committed (rows_of l.fn.slots) l.fn.pending;
}

abbrev pub decreases-loop-change : goal.decreases-loop-change
decreases-loop-change l = length l.pending
