use Rattle.std.proofs.Common.{◌≡◌, map}
use Rattle.transact_calls.specs.Stated.{keyed_of}
use Rattle.transact_calls.proofs.keyed.keyed_all.Given as goal

abbrev pub invariant-loop-aimed : goal.invariant-loop-aimed
invariant-loop-aimed l = l.actions.items ≡ map keyed_of l.yielded
