use Rattle.std.proofs.Common.{◌-◌, ◌<◌, length, reverse, ◌∙◌, arith}
use Rattle.std.proofs.lemmas.List.{length-set}
use Rattle.std.specs.Vec.{with_item}
use Rattle.std.specs.Box.{with_value}
use Rattle.txn_core.specs.Cells.{of_cell}
use Rattle.cluster.proofs.Places.{lent_stands, planned_more, stand_kept}
use Rattle.cluster.proofs.all.plan_each.Goals as goal

pub loop-i-preserved : goal.loop-i-preserved
loop-i-preserved g c =
    let n = c.args.turnstile.now.id.slots in
    let S = g.R.Rules.protocol (n - 1) in
    let cells = c.loop-i.turns.values in
    let es = reverse c.args.pass.now.front in
    let i = c.loop-i.i in
    let inv = c.loop-i.invariant in
    let many = inv.count ∙ c.requires.count in
    let partitions = c.partitions-i-end.ensures.count in
    let test = c.loop-i-test.true in
    let below : i < length cells.items = omega arith in
    let b = c.cell.result.now in
    let y = with_value b c.plan_in.new.cell in
    let stands = lent_stands S g.R.CellRules.locals cells.items es i b c.deref_mut.result.now below c.cell.ensures.value c.deref_mut.ensures.value inv.stand in
    record {
      turns = λ j. record { numbers = (inv.turns j).numbers; values = with_item cells i y; counted = (inv.turns j).counted };
      count = length-set cells.items i y ∙ inv.count;
      stand =
          stand_kept S g.R.CellRules.locals cells.items es i b y c.deref_mut.result.now below c.cell.ensures.value c.deref_mut.ensures.value inv.stand
          (c.plan_in.ensures.kept (n - 1));
      planned =
          planned_more S g.R.CellRules.locals g.R.CommandRules.target g.R.CommandRules.numbers cells.items c.args.command.now c.moment-moment.result c.args.pass.now.moment i y
          inv.planned
          (c.in_ok-plan_in.ensures.planned (n - 1) (of_cell i es) stands) c.moment-moment.ensures;
    }

pub returns-in_err-plan_in-clause-stand : goal.returns-in_err-plan_in-clause-stand
returns-in_err-plan_in-clause-stand g c =
    let n = c.args.turnstile.now.id.slots in
    let S = g.R.Rules.protocol (n - 1) in
    let cells = c.loop-i.turns.values in
    let i = c.loop-i.i in
    let inv = c.loop-i.invariant in
    let many = inv.count ∙ c.requires.count in
    let partitions = c.partitions-i-end.ensures.count in
    let test = c.loop-i-test.true in
    let below : i < length cells.items = omega arith in
    let b = c.cell.result.now in
    stand_kept S g.R.CellRules.locals cells.items (reverse c.args.pass.now.front) i b (with_value b c.plan_in.new.cell) c.deref_mut.result.now below
    c.cell.ensures.value c.deref_mut.ensures.value inv.stand (c.plan_in.ensures.kept (n - 1))
