use Rattle.std.proofs.Common.{◌≡◌, map, take}
use Rattle.txn_core.specs.Driver.{no_reason}
use Rattle.coordinator.proofs.reasons.empty_reasons.Given as goal

abbrev pub invariant-loop-reason : goal.invariant-loop-reason
invariant-loop-reason g l = l.empty.items ≡ map no_reason (take l._reason-index l.reasons)
