use Rattle.std.proofs.Common.{◌-◌, ◌<◌, length, reverse, sym, ◌∙◌, arith}
use Rattle.std.proofs.lemmas.List.{length-set}
use Rattle.std.specs.Vec.{with_item}
use Rattle.txn_core.specs.Cells.{of_cell}
use Rattle.cluster.specs.Commanding.{own}
use Rattle.cluster.proofs.Places.{lent_stands, stand_left}
use Rattle.cluster.proofs.Ways.{clear_more, first_found}
use Rattle.cluster.proofs.all.in_the_way.Goals as goal

pub loop-i-preserved : goal.loop-i-preserved
loop-i-preserved g c =
    let n = c.args.turnstile.now.id.slots in
    let S = g.R.Rules.protocol (n - 1) in
    let cells = c.loop-i.turns.values in
    let es = reverse c.args.pass.now.front in
    let i = c.loop-i.i in
    let inv = c.loop-i.invariant in
    let many = inv.count ∙ c.requires.count in
    let partitions = c.partitions-i-end.ensures.count in
    let test = c.loop-i-test.true in
    let below : i < length cells.items = omega arith in
    let numbered = g.met.R.Rules.numbered (n - 1) in
    let partition : i < S.control = omega arith in
    let b = c.cell.result.now in
    let stands = lent_stands S g.R.CellRules.locals cells.items es i b c.deref.result.now below c.cell.ensures.value c.deref.ensures inv.stand in
    record {
      turns = λ j. record { numbers = (inv.turns j).numbers; values = with_item cells i b; counted = (inv.turns j).counted };
      count = length-set cells.items i b ∙ inv.count;
      stand =
          stand_left S g.R.CellRules.locals cells.items es i b below c.cell.ensures.value inv.stand;
      clear =
          clear_more S (own S es) c.args.command.now i c.holder_in-holder.result (sym c.is_some.ensures ∙ c.if-is_some.false)
          ((c.holder_in-holder.ensures (n - 1)).tells i (of_cell i es) partition stands) inv.clear;
    }

pub returns-then-is_some-clause-tells : goal.returns-then-is_some-clause-tells
returns-then-is_some-clause-tells g c =
    let n = c.args.turnstile.now.id.slots in
    let S = g.R.Rules.protocol (n - 1) in
    let cells = c.loop-i.turns.values in
    let es = reverse c.args.pass.now.front in
    let i = c.loop-i.i in
    let inv = c.loop-i.invariant in
    let many = inv.count ∙ c.requires.count in
    let partitions = c.partitions-i-end.ensures.count in
    let test = c.loop-i-test.true in
    let below : i < length cells.items = omega arith in
    let numbered = g.met.R.Rules.numbered (n - 1) in
    let partition : i < S.control = omega arith in
    let stands = lent_stands S g.R.CellRules.locals cells.items es i c.cell.result.now c.deref.result.now below c.cell.ensures.value c.deref.ensures inv.stand in
    first_found S (own S es) c.args.command.now i c.holder_in-holder.result (sym c.is_some.ensures ∙ c.if-is_some.true)
    ((c.holder_in-holder.ensures (n - 1)).tells i (of_cell i es) partition stands) inv.clear
