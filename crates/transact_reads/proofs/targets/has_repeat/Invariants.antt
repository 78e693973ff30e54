use Rattle.std.proofs.Common.{◌≡◌, ◌||◌, List, map, drop}
use Rattle.std.specs.List.{list_any}
use Rattle.table_model.specs.Transactions.{Target, has_repeat}
use Rattle.transact_reads.specs.Spots.{holds}
use Rattle.transact_reads.proofs.targets.has_repeat.Given as goal

abbrev pub invariant-loop-target : goal.invariant-loop-target
invariant-loop-target g l =
    let left : List Target = map g.T.Targeted.target_of (drop l.target-index l.targets) in
    (list_any (holds l.seen.keys) left || has_repeat left) ≡ has_repeat (map g.T.Targeted.target_of l.targets)
