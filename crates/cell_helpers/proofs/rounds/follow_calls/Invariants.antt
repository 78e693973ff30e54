use Rattle.cluster.specs.Steps.{IsAtRest}
use Rattle.cell_helpers.specs.Upkeep.{Upkeep}
use Rattle.cell_helpers.proofs.rounds.follow_calls.Given as goal

abbrev pub invariant-loop : goal.invariant-loop
invariant-loop g l = Upkeep l.fn.pass l.pass × IsAtRest l.cells.caller l.pass
