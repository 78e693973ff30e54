use Rattle.std.proofs.Common.{◌≡◌, ◌+◌, ◌-◌, length, reverse, sym, ap, ◌∙◌, subst, arith}
use Rattle.std.specs.Box.{with_value}
use Rattle.cluster.specs.Commanding.{CarriedBefore, PlannedBefore, own}
use Rattle.cluster.proofs.Places.{all_carried, all_ready}
use Rattle.cluster.proofs.all.carry_out.Goals as goal

pub carry_out_each-requires-clause-ready : goal.carry_out_each-requires-clause-ready
carry_out_each-requires-clause-ready g c =
    let n = c.args.turnstile.now.id.slots in
    let S = g.R.Rules.protocol (n - 1) in
    let target = g.R.CommandRules.target in
    let numbers = g.R.CommandRules.numbers in
    let cells = c.plan_each.new.turns.values.items in
    let d = c.args.command.now in
    let moment = c.args.pass.now.moment in
    all_ready S g.R.CellRules.locals target numbers cells (reverse c.args.pass.now.front) d moment c.plan_each.ensures.stand
    (subst (λ k. PlannedBefore S g.R.CellRules.locals target numbers k cells d moment) (sym (g.met.R.Rules.numbered (n - 1))) c.in_default.ensures.planned)

pub returns-clause-carried : goal.returns-clause-carried
returns-clause-carried g c =
    let n = c.args.turnstile.now.id.slots in
    let S = g.R.Rules.protocol (n - 1) in
    let target = g.R.CommandRules.target in
    let numbers = g.R.CommandRules.numbers in
    let cells = c.carry_out_each.new.turns.values.items in
    let es = reverse c.args.pass.now.front in
    let d = c.args.command.now in
    let moment = c.args.pass.now.moment in
    let b = c.cell.result.now in
    let at = c.partitions.ensures.count in
    let some = c.requires.cells in
    let whole = c.carry_out_each.ensures.count ∙ (c.plan_each.ensures.count ∙ c.requires.count) in
    let many : length cells ≡ c.partitions.result + 1 = omega arith in
    all_carried S g.R.CellRules.locals target numbers cells es d moment c.partitions.result b (with_value b c.take_catalog.new.cell) c.deref_mut.result.now c.args.catalog
    many (at ∙ sym (g.met.R.Rules.numbered (n - 1))) c.cell.ensures.value c.deref_mut.ensures.value
    (subst (λ k. CarriedBefore S g.R.CellRules.locals target numbers k cells es d moment) (sym at) c.carry_out_each.ensures.carried)
    (c.requires.catalog ∙ ap (λ k. S.core.change d moment (own S es k).catalog) (sym at)) (c.take_catalog.ensures (n - 1) moment)
