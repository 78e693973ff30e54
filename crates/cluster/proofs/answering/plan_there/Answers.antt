use Rattle.std.proofs.Common.{ℕ, ◌-◌, ◌<◌, length, reverse, sym, ◌∙◌, subst, arith}
use Rattle.txn_core.specs.Cells.{of_cell}
use Rattle.control_cell.specs.Plans.{IsPlan}
use Rattle.partition.proofs.Moved.{if_ok_with}
use Rattle.cluster.specs.Commanding.{own}
use Rattle.cluster.proofs.AfterAll.{is_control}
use Rattle.cluster.proofs.Places.{lent_stands}
use Rattle.cluster.proofs.answering.plan_there.Goals as goal

pub plan_of-requires : goal.plan_of-requires
plan_of-requires g c =
    let n = c.args.turnstile.now.id.slots in
    let S = g.R.Rules.protocol (n - 1) in
    let cells = c.args.turns.now.values.items in
    let es = reverse c.args.pass.now.front in
    let i = c.partitions-last.result in
    let at = c.partitions-last.ensures.count in
    let some = c.requires.cells in
    let many = c.requires.count in
    let below : i < length cells = omega arith in
    is_control S g.R.CellRules.locals i c.deref.result.now (of_cell i es) (at ∙ sym (g.met.R.Rules.numbered (n - 1)))
    (lent_stands S g.R.CellRules.locals cells es i c.cell.result.now c.deref.result.now below c.cell.ensures.value c.deref.ensures c.requires.stand)

pub returns-clause-plan : goal.returns-clause-plan
returns-clause-plan g c =
    let n = c.args.turnstile.now.id.slots in
    let S = g.R.Rules.protocol (n - 1) in
    let cells = c.args.turns.now.values.items in
    let es = reverse c.args.pass.now.front in
    let i = c.partitions-last.result in
    let at = c.partitions-last.ensures.count in
    let some = c.requires.cells in
    let many = c.requires.count in
    let below : i < length cells = omega arith in
    let stands = lent_stands S g.R.CellRules.locals cells es i c.cell.result.now c.deref.result.now below c.cell.ensures.value c.deref.ensures c.requires.stand in
    if_ok_with c.plan_of.result c.plan_of.ensures
    (λ plan tells.
    subst (λ (z : ℕ × ℕ). IsPlan S (own S es z.0).catalog c.args.command.now z.1 plan) (λ j. (at j, c.moment-moment.ensures j))
    ((tells (n - 1)).tells i (of_cell i es) stands))
