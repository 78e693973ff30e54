use Rattle.std.proofs.Common.{◌≡◌, map}
use Rattle.transact_calls.specs.Targets.{key_at}
use Rattle.transact_calls.proofs.items.keys_at.Given as goal

abbrev pub invariant-loop-place : goal.invariant-loop-place
invariant-loop-place l = l.keys.items ≡ map key_at l.yielded
