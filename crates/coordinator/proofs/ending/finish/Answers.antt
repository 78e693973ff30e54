use Rattle.std.proofs.Common.{◌-◌, Some, refl, reverse}
use Rattle.coordinator.proofs.Finishing.{done_allowed, finished_all, finished_less}
use Rattle.coordinator.proofs.ending.finish.Goals as goal

pub ask_ledger-requires-clause-may : goal.ask_ledger-requires-clause-may
ask_ledger-requires-clause-may g c =
    done_allowed (g.R.Rules.protocol (c.args.caller.now.id.slots - 1)) (reverse c.args.pass.now.front) c.args.driver.now c.args.pass.now.number
    c.requires.driver c.requires.next

pub returns-clause-ok : goal.returns-clause-ok
returns-clause-ok g c =
    let n = c.args.caller.now.id.slots - 1 in
    let d = c.args.driver.now in
    finished_all (g.R.Rules.protocol n) (g.met.R.Rules.lawful n) c.args.pass.now c.ask_ledger.new.pass (Some n) c.in_ok-answer.answer d
    (record d { course = c.took_done.new.self }) c.requires.driver c.requires.next c.in_ok-answer.ensures.later c.took_done.ensures refl
    c.in_ok-answer.ensures.ok

pub returns-clause-less : goal.returns-clause-less
returns-clause-less g c =
    finished_less (g.R.Rules.protocol (c.args.caller.now.id.slots - 1)) (reverse c.args.pass.now.front) c.args.driver.now c.took_done.new.self
    c.requires.driver c.requires.next c.took_done.ensures
