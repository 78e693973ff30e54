use Rattle.cluster.specs.Steps.{IsAtRest}
use Rattle.cell_helpers.specs.Upkeep.{Upkeep}
use Rattle.cell_helpers.proofs.rounds.remove.Given as goal

abbrev pub invariant-loop-cell : goal.invariant-loop-cell
invariant-loop-cell g l = Upkeep l.fn.pass l.pass × IsAtRest l.cells.caller l.pass
