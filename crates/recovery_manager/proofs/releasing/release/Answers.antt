use Rattle.std.proofs.Common.{◌-◌, Some}
use Rattle.recovery_manager.proofs.Freed.{releases_one}
use Rattle.recovery_manager.proofs.releasing.release.Goals as goal

pub returns-clause-ok : goal.returns-clause-ok
returns-clause-ok g c =
    let n = c.args.caller.now.id.slots - 1 in
    let told = c.in_ok-answer.ensures in
    releases_one (g.R.Rules.protocol n) (g.met.R.Rules.lawful n) c.args.pass.now c.ask.new.pass (Some c.args.cell) c.args.number c.args.key
    c.in_ok-answer.answer told.later told.ok
