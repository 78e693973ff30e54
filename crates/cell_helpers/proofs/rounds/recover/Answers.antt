use Rattle.std.proofs.Common.{◌-◌}
use Rattle.cell_helpers.proofs.Kept.{swept_keeps}
use Rattle.cell_helpers.proofs.rounds.recover.Goals as goal

pub returns-clause-upkeep : goal.returns-clause-upkeep
returns-clause-upkeep g c =
    swept_keeps (c.args.cells.now.caller.id.slots - 1) c.args.pass.now c.sweep.new.pass c.sweep.result c.sweep.ensures.ok c.sweep.ensures.err
