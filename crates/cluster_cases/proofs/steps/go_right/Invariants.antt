use Rattle.cluster.specs.Steps.{IsAtRest}
use Rattle.cluster_cases.proofs.steps.go_right.Given as goal

abbrev pub invariant-loop-act : goal.invariant-loop-act
invariant-loop-act g l = IsAtRest l.caller l.pass
