use Rattle.std.proofs.Common.{◌-◌, Some, refl}
use Rattle.coordinator.proofs.Writing.{forgets_own}
use Rattle.coordinator.proofs.transaction.forget.Goals as goal

pub returns : goal.returns
returns g c =
    let n = c.args.caller.now.id.slots - 1 in
    let asked = c.ask_ledger-answer in
    forgets_own (g.R.Rules.protocol n) (g.met.R.Rules.lawful n) c.args.pass.now asked.new.pass (Some n) c.args.number asked.result c.requires.own
    asked.ensures.later asked.ensures.ok asked.ensures.spent asked.ensures.unchanged (asked.ensures.sure refl)
