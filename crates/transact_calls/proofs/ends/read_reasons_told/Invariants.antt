use Rattle.std.proofs.Common.{◌≡◌, ◌++◌, drop}
use Rattle.transact_calls.specs.Ends.{read_reasons_told}
use Rattle.transact_calls.proofs.ends.read_reasons_told.Given as goal

abbrev pub invariant-loop-reason : goal.invariant-loop-reason
invariant-loop-reason l = l.all.items ++ read_reasons_told (drop l.reason-index l.reasons) ≡ read_reasons_told l.reasons
