use Rattle.cluster.specs.Steps.{IsAtRest}
use Rattle.call_cases.proofs.limit.are_made.Given as goal

abbrev pub invariant-loop-number : goal.invariant-loop-number
invariant-loop-number g l = IsAtRest l.cells.caller l.pass
