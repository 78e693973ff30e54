use Rattle.std.proofs.Common.{◌≡◌, map}
use Rattle.std.specs.List.{flat_map}
use Rattle.batch_calls.specs.Steps.{actions_at}
use Rattle.batch_calls.proofs.Agreed.{lent_part}
use Rattle.batch_calls.proofs.actions.all_actions.Given as goal

abbrev pub invariant-loop-asked : goal.invariant-loop-asked
invariant-loop-asked l = l.actions ≡ flat_map (λ both. actions_at both.0.table both.0.writes both.1) (map lent_part l.yielded)
