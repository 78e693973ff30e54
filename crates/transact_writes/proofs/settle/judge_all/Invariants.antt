use Rattle.std.proofs.Common.{map}
use Rattle.std.specs.List.{AllByRecursion}
use Rattle.std.specs.Vec.Iter.{into_iter_items}
use Rattle.transact_writes.specs.Aimed.{database_of, action_in, IsTarget}
use Rattle.transact_writes.proofs.Judging.{AreSoFar}
use Rattle.transact_writes.proofs.settle.judge_all.Given as goal

abbrev pub invariant-loop-aimed : goal.invariant-loop-aimed
invariant-loop-aimed l = record {
  so_far : AreSoFar (database_of l.tables.entries) (map action_in l.fn.aimed) (map action_in (into_iter_items l.aimed-iterator)) l.verdicts;
  targets : AllByRecursion (IsTarget (database_of l.tables.entries)) (into_iter_items l.aimed-iterator);
}
