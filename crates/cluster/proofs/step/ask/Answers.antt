use Rattle.std.proofs.Common.{◌-◌, ◌+◌, [], ◌∷◌, Some, ap, ◌∙◌}
use Rattle.turnstile.specs.Kept.{ticket}
use Rattle.cluster.proofs.Counting.{added}
use Rattle.cluster.proofs.Serving.{serves}
use Rattle.cluster.proofs.Turning.{stands_newest, turned}
use Rattle.cluster.proofs.step.ask.Goals as goal

pub serve-requires : goal.serve-requires
serve-requires g c = λ n.
    let S = g.R.Rules.protocol (c.args.turnstile.now.id.slots - 1) in
    serves S g.R.CellRules.locals c.args.cell c.args.message c.deref_mut.result.now _ c.requires.served
    (stands_newest S g.R.CellRules.locals c.args.cell c.enter.new.pass.front c.in-Ok.turn.value.value c.deref_mut.result.now
    (c.deref_mut.ensures.value ∙ ap (λ b. b.value) c.cell.ensures.value) c.in-Ok.ensures.stands)

pub count-requires-clause-fits : goal.count-requires-clause-fits
count-requires-clause-fits g c =
    let n = c.args.turnstile.now.id.slots in
    let S = g.R.Rules.protocol (n - 1) in
    (turned S g.R.CellRules.locals (g.met.R.Rules.lawful (n - 1)) n c.args.cell (c.args.pass.now.used + 1) c.moment-moment.result c.args.pass.now c.enter.new.pass
    (ticket c.args.cell c.in-Ok.turn.number ∷ []) c.args.message c.in-Ok-serve.answer c.deref_mut.result.now c.serve.new.cell c.requires.cells
    (g.met.R.Rules.numbered (n - 1)) c.requires.served.within c.requires.sent c.in-Ok.ensures.pass c.facts.ensures.legal c.in-Ok.ensures.trail
    c.requires.may c.facts.ensures.timely
    (stands_newest S g.R.CellRules.locals c.args.cell c.enter.new.pass.front c.in-Ok.turn.value.value c.deref_mut.result.now
    (c.deref_mut.ensures.value ∙ ap (λ b. b.value) c.cell.ensures.value) c.in-Ok.ensures.stands)
    c.moment-moment.ensures (c.in-Ok-serve.ensures.answers (n - 1)) (c.in-Ok-serve.ensures.stands (n - 1)) c.in-Ok.turn.cell
    c.of-asked.result.value c.in-Ok.ensures.turn.0 c.of-asked.ensures).0

pub count-requires-clause-stands : goal.count-requires-clause-stands
count-requires-clause-stands g c =
    let n = c.args.turnstile.now.id.slots in
    let S = g.R.Rules.protocol (n - 1) in
    (turned S g.R.CellRules.locals (g.met.R.Rules.lawful (n - 1)) n c.args.cell (c.args.pass.now.used + 1) c.moment-moment.result c.args.pass.now c.enter.new.pass
    (ticket c.args.cell c.in-Ok.turn.number ∷ []) c.args.message c.in-Ok-serve.answer c.deref_mut.result.now c.serve.new.cell c.requires.cells
    (g.met.R.Rules.numbered (n - 1)) c.requires.served.within c.requires.sent c.in-Ok.ensures.pass c.facts.ensures.legal c.in-Ok.ensures.trail
    c.requires.may c.facts.ensures.timely
    (stands_newest S g.R.CellRules.locals c.args.cell c.enter.new.pass.front c.in-Ok.turn.value.value c.deref_mut.result.now
    (c.deref_mut.ensures.value ∙ ap (λ b. b.value) c.cell.ensures.value) c.in-Ok.ensures.stands)
    c.moment-moment.ensures (c.in-Ok-serve.ensures.answers (n - 1)) (c.in-Ok-serve.ensures.stands (n - 1)) c.in-Ok.turn.cell
    c.of-asked.result.value c.in-Ok.ensures.turn.0 c.of-asked.ensures).1

pub returns-in-Ok-serve-clause-ok : goal.returns-in-Ok-serve-clause-ok
returns-in-Ok-serve-clause-ok g c =
    let n = c.args.turnstile.now.id.slots in
    let S = g.R.Rules.protocol (n - 1) in
    added S c.args.pass.now c.enter.new.pass c.count.new.pass c.leave.new.pass (ticket c.args.cell c.in-Ok.turn.number ∷ []) (Some c.in-Ok.turn.cell)
    (Some c.args.cell) c.of-asked.result.value c.args.message c.in-Ok-serve.answer (ap Some c.in-Ok.ensures.turn.0) c.of-asked.ensures c.requires.rests.free
    c.in-Ok.ensures.pass c.count.ensures.pass c.leave.ensures c.in-Ok.ensures.trail c.count.ensures.ends c.facts-in-Ok-serve.ensures.legal
