use Rattle.std.proofs.Common.{◌≡◌, ◌++◌, map}
use Rattle.batch_calls.specs.Singles.{action_alone}
use Rattle.batch_calls.proofs.Agreed.{lent_part}
use Rattle.batch_calls.proofs.actions.push_actions.Given as goal

abbrev pub invariant-loop-write : goal.invariant-loop-write
invariant-loop-write l = l.actions ≡ l.fn.actions ++ map (λ both. action_alone l.asked.table both.0 both.1) (map lent_part l.yielded)
