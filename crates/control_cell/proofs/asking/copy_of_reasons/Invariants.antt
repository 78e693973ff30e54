use Rattle.std.proofs.Common.{◌≡◌, ◌++◌, drop}
use Rattle.control_cell.proofs.asking.copy_of_reasons.Given as goal

abbrev pub invariant-loop-reason : goal.invariant-loop-reason
invariant-loop-reason g l = l.copies.items ++ drop l.reason-index l.reasons ≡ l.reasons
