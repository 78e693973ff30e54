use Rattle.std.proofs.Common.{◌-◌, ◌+◌, None, refl}
use Rattle.txn_core.specs.declared.message.Message.{Message}
use Rattle.cluster.proofs.Counting.{added}
use Rattle.cluster.proofs.Places.{each_oldest}
use Rattle.cluster.proofs.Turning.{all_turned}
use Rattle.cluster.proofs.command_step.ask_all.Goals as goal

pub count_all-requires-clause-fits : goal.count_all-requires-clause-fits
count_all-requires-clause-fits g c =
    let n = c.args.turnstile.now.id.slots in
    (all_turned (g.R.Rules.protocol (n - 1)) g.R.CellRules.locals (g.met.R.Rules.lawful (n - 1)) n (c.args.pass.now.used + 1) c.args.pass.now c.take_turns.new.pass
    c.take_turns.new.pass.turns c.args.command.now c.in-Ok.answer c.answer_all.new.turns.values.items c.requires.cells.0
    (g.met.R.Rules.numbered (n - 1)) c.in_ok-turns.ensures.pass c.facts.ensures.legal c.in_ok-turns.ensures.trail c.facts.ensures.timely
    c.in-Ok.ensures.answers c.in-Ok.ensures.stand).0

pub count_all-requires-clause-stand : goal.count_all-requires-clause-stand
count_all-requires-clause-stand g c =
    let n = c.args.turnstile.now.id.slots in
    (all_turned (g.R.Rules.protocol (n - 1)) g.R.CellRules.locals (g.met.R.Rules.lawful (n - 1)) n (c.args.pass.now.used + 1) c.args.pass.now c.take_turns.new.pass
    c.take_turns.new.pass.turns c.args.command.now c.in-Ok.answer c.answer_all.new.turns.values.items c.requires.cells.0
    (g.met.R.Rules.numbered (n - 1)) c.in_ok-turns.ensures.pass c.facts.ensures.legal c.in_ok-turns.ensures.trail c.facts.ensures.timely
    c.in-Ok.ensures.answers c.in-Ok.ensures.stand).1

pub leave_all-requires-clause-stands : goal.leave_all-requires-clause-stands
leave_all-requires-clause-stands g c =
    each_oldest (g.R.Rules.protocol (c.args.turnstile.now.id.slots - 1)) g.R.CellRules.locals c.count_all.new.turns.values.items c.count_all.new.pass.front
    c.count_all.ensures.stand

pub leave_all-requires-in-Err-clause-stands : goal.leave_all-requires-in-Err-clause-stands
leave_all-requires-in-Err-clause-stands g c =
    each_oldest (g.R.Rules.protocol (c.args.turnstile.now.id.slots - 1)) g.R.CellRules.locals c.answer_all.new.turns.values.items c.take_turns.new.pass.front
    c.in-Err.ensures.kept

pub returns-in-Ok-clause-ok : goal.returns-in-Ok-clause-ok
returns-in-Ok-clause-ok g c =
    let m = Message.Command c.args.command.now in
    added (g.R.Rules.protocol (c.args.turnstile.now.id.slots - 1)) c.args.pass.now c.take_turns.new.pass c.count_all.new.pass c.leave_all.new.pass
    c.take_turns.new.pass.turns None None m m c.in-Ok.answer refl refl c.requires.rests.free c.in_ok-turns.ensures.pass c.count_all.ensures.pass
    c.leave_all.ensures c.in_ok-turns.ensures.trail c.count_all.ensures.ends c.facts-in-Ok.ensures.legal
