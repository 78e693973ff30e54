use Rattle.std.proofs.Common.{◌-◌}
use Rattle.cell_helpers.proofs.Kept.{expired_keeps}
use Rattle.cell_helpers.proofs.rounds.remove_some.Goals as goal

pub returns-clause-upkeep : goal.returns-clause-upkeep
returns-clause-upkeep g c =
    expired_keeps (c.args.cells.now.caller.id.slots - 1) c.args.pass.now c.expire.new.pass 25 c.args.cell c.expire.result c.expire.ensures.ok
    c.expire.ensures.err
