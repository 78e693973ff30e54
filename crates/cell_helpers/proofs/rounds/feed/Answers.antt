use Rattle.std.proofs.Common.{◌-◌}
use Rattle.cell_helpers.proofs.Kept.{drained_keeps}
use Rattle.cell_helpers.proofs.rounds.feed.Goals as goal

pub returns-clause-upkeep : goal.returns-clause-upkeep
returns-clause-upkeep g c =
    drained_keeps (c.args.cells.now.caller.id.slots - 1) c.args.pass.now c.drain.new.pass c.drain.result c.drain.ensures.ok c.drain.ensures.err
