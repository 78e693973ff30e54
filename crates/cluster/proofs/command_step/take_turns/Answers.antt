use Rattle.std.proofs.Common.{◌-◌}
use Rattle.cluster.proofs.Places.{each_newest}
use Rattle.cluster.proofs.command_step.take_turns.Goals as goal

pub returns-in-Ok-clause-stand : goal.returns-in-Ok-clause-stand
returns-in-Ok-clause-stand g c =
    each_newest (g.R.Rules.protocol (c.args.turnstile.now.id.slots - 1)) g.R.CellRules.locals c.in-Ok.turns.values.items c.enter_all.new.pass.front
    c.in-Ok.ensures.stands
