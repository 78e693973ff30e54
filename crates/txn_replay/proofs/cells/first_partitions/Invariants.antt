use Rattle.std.proofs.Common.{◌≡◌, ℕ, [], Some, length}
use Rattle.std.specs.Prelude.{slice_get}
use Rattle.txn_replay.specs.Standing.{StandsAs}
use Rattle.txn_replay.proofs.cells.first_partitions.Given as goal

abbrev pub invariant-loop-place : goal.invariant-loop-place
invariant-loop-place g l = record {
  count : length l.cells.items ≡ l._place;
  stand : (i : ℕ) (x : _) → slice_get l.cells.items i ≡ Some x → StandsAs (g.R.Rules.protocol l.partitions) g.R.CellRules.locals i x [];
}
