use Rattle.std.proofs.Common.{◌≡◌, map}
use Rattle.transact_calls.specs.Ends.{reason_told}
use Rattle.transact_calls.proofs.ends.reasons_told.Given as goal

abbrev pub invariant-loop-action : goal.invariant-loop-action
invariant-loop-action l = l.told.items ≡ map (λ both. reason_told both.0.now.show_old both.1.now) l.yielded
