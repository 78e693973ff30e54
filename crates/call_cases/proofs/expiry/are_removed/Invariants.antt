use Rattle.cluster.specs.Steps.{IsAtRest}
use Rattle.call_cases.proofs.expiry.are_removed.Given as goal

abbrev pub invariant-loop-cell : goal.invariant-loop-cell
invariant-loop-cell g l = IsAtRest l.cells.caller l.pass
