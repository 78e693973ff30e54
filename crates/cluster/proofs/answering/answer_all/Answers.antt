use Rattle.std.proofs.Common.{◌-◌, reverse, refl}
use Rattle.txn_core.specs.declared.answer.Answer.{Answer}
use Rattle.cluster.proofs.Answered.{all_changed, all_left, carried_held, carried_planned, denied_held, denied_planned, refused_planned}
use Rattle.cluster.proofs.answering.answer_all.Goals as goal

pub returns-in-Refused-clause-answers : goal.returns-in-Refused-clause-answers
returns-in-Refused-clause-answers g c =
    let n = c.args.turnstile.now.id.slots in
    refused_planned (g.R.Rules.protocol (n - 1)) (g.met.R.Rules.lawful (n - 1)) (reverse c.args.pass.now.front) c.requires.legal
    c.args.pass.now.moment c.args.command.now (n - 1) (g.met.R.Rules.numbered (n - 1)) c.in_ok-told.field-0 c.in_ok-told.ensures.plan
    c.in-Refused.told c.in-Refused.is

pub returns-in-Refused-clause-stand : goal.returns-in-Refused-clause-stand
returns-in-Refused-clause-stand g c =
    let n = c.args.turnstile.now.id.slots in
    all_left (g.R.Rules.protocol (n - 1)) g.R.CellRules.locals (c.others_leave_it.ensures (n - 1)) c.plan_there.new.turns.values.items (reverse c.args.pass.now.front)
    c.args.pass.now.moment c.args.command.now (Answer.Refused c.in-Refused.told) refl c.plan_there.ensures.stand

pub returns-in-Some-clause-answers : goal.returns-in-Some-clause-answers
returns-in-Some-clause-answers g c =
    let n = c.args.turnstile.now.id.slots in
    denied_held (g.R.Rules.protocol (n - 1)) (g.met.R.Rules.lawful (n - 1)) (reverse c.args.pass.now.front) c.requires.legal
    c.args.pass.now.moment c.args.command.now (n - 1) (g.met.R.Rules.numbered (n - 1)) c.in_ok-told.field-0 c.in_ok-told.ensures.plan
    c.in-Denied.told c.in-Some.number c.in-Denied.is c.in-Some.ensures.tells

pub returns-in-Some-clause-stand : goal.returns-in-Some-clause-stand
returns-in-Some-clause-stand g c =
    let n = c.args.turnstile.now.id.slots in
    all_left (g.R.Rules.protocol (n - 1)) g.R.CellRules.locals (c.others_leave_it.ensures (n - 1)) c.in_the_way.new.turns.values.items (reverse c.args.pass.now.front)
    c.args.pass.now.moment c.args.command.now (Answer.Held c.in-Some.number) refl c.in_the_way.ensures.stand

pub returns-in-None-clause-answers : goal.returns-in-None-clause-answers
returns-in-None-clause-answers g c =
    let n = c.args.turnstile.now.id.slots in
    denied_planned (g.R.Rules.protocol (n - 1)) (g.met.R.Rules.lawful (n - 1)) (reverse c.args.pass.now.front) c.requires.legal
    c.args.pass.now.moment c.args.command.now (n - 1) (g.met.R.Rules.numbered (n - 1)) c.in_ok-told.field-0 c.in_ok-told.ensures.plan
    c.in-Denied.told c.in-Denied.is c.in-None.ensures.tells

pub returns-in-None-clause-stand : goal.returns-in-None-clause-stand
returns-in-None-clause-stand g c =
    let n = c.args.turnstile.now.id.slots in
    all_left (g.R.Rules.protocol (n - 1)) g.R.CellRules.locals (c.others_leave_it.ensures (n - 1)) c.in_the_way.new.turns.values.items (reverse c.args.pass.now.front)
    c.args.pass.now.moment c.args.command.now (Answer.Refused c.in-Denied.told) refl c.in_the_way.ensures.stand

pub returns-in-Some-in_the_way-clause-answers : goal.returns-in-Some-in_the_way-clause-answers
returns-in-Some-in_the_way-clause-answers g c =
    let n = c.args.turnstile.now.id.slots in
    carried_held (g.R.Rules.protocol (n - 1)) (g.met.R.Rules.lawful (n - 1)) (reverse c.args.pass.now.front) c.requires.legal
    c.args.pass.now.moment c.args.command.now (n - 1) (g.met.R.Rules.numbered (n - 1)) c.in_ok-told.field-0 c.in_ok-told.ensures.plan
    c.in-Carried.told c.in-Carried.catalog c.in-Some-in_the_way.number c.in-Carried.is c.in-Some-in_the_way.ensures.tells

pub returns-in-Some-in_the_way-clause-stand : goal.returns-in-Some-in_the_way-clause-stand
returns-in-Some-in_the_way-clause-stand g c =
    let n = c.args.turnstile.now.id.slots in
    all_left (g.R.Rules.protocol (n - 1)) g.R.CellRules.locals (c.others_leave_it.ensures (n - 1)) c.in_the_way-in-Carried.new.turns.values.items
    (reverse c.args.pass.now.front) c.args.pass.now.moment c.args.command.now (Answer.Held c.in-Some-in_the_way.number) refl
    c.in_the_way-in-Carried.ensures.stand

pub returns-in_ok-carry_out-in-None-in_the_way-clause-answers : goal.returns-in_ok-carry_out-in-None-in_the_way-clause-answers
returns-in_ok-carry_out-in-None-in_the_way-clause-answers g c =
    let n = c.args.turnstile.now.id.slots in
    carried_planned (g.R.Rules.protocol (n - 1)) (g.met.R.Rules.lawful (n - 1)) (reverse c.args.pass.now.front) c.requires.legal
    c.args.pass.now.moment c.args.command.now (n - 1) (g.met.R.Rules.numbered (n - 1)) c.in_ok-told.field-0 c.in_ok-told.ensures.plan
    c.in-Carried.told c.in-Carried.catalog c.in-Carried.is c.in-None-in_the_way.ensures.tells

pub returns-in_ok-carry_out-in-None-in_the_way-clause-stand : goal.returns-in_ok-carry_out-in-None-in_the_way-clause-stand
returns-in_ok-carry_out-in-None-in_the_way-clause-stand g c =
    all_changed (g.R.Rules.protocol (c.args.turnstile.now.id.slots - 1)) g.R.CellRules.locals c.carry_out.new.turns.values.items
    (reverse c.args.pass.now.front) c.args.pass.now.moment c.args.command.now c.in-Carried.told c.in_ok-carry_out-in-None-in_the_way.ensures.carried
