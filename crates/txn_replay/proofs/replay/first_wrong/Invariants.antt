use Rattle.std.proofs.Common.{◌≡◌, length, reverse, take}
use Rattle.txn_core.specs.Breaks.{AllKeep}
use Rattle.txn_core.specs.Legal.{IsLegal}
use Rattle.txn_replay.specs.Standing.{AllStand}
use Rattle.txn_replay.proofs.Ending.{of_answers}
use Rattle.txn_replay.proofs.replay.first_wrong.Given as goal

abbrev pub invariant-loop-place : goal.invariant-loop-place
invariant-loop-place g l = let S = g.R.Rules.protocol l.partitions in let es = reverse (take l.place l.entries) in record {
  right : AllKeep S of_answers es;
  count : length l.cells.partitions.items ≡ l.partitions;
  stand : IsLegal S es → AllStand S g.R.CellRules.locals l.cells es;
}
