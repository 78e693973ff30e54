use Rattle.cell_service.proofs.Told.{helpers_rest}
use Rattle.cell_service.proofs.service.CellService.make.Goals as goal

pub returns-clause-helpers : goal.returns-clause-helpers
returns-clause-helpers c =
    helpers_rest c.in_ok-cells.cells.cluster c.in_ok-cells.passes c.pop.new.self c.pop-2.new.self c.in-Some-pop.feeder c.in-Some.recovery
    c.in_ok-hints.helpers c.in_ok-cells.ensures.rest c.in-Some.ensures.items c.in-Some-pop.ensures.items c.in_ok-hints.ensures.passes
