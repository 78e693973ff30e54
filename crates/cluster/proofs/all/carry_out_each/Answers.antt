use Rattle.std.proofs.Common.{◌≡◌, ◌-◌, ◌<◌, length, reverse, ◌∙◌, subst, arith}
use Rattle.std.proofs.lemmas.List.{length-set}
use Rattle.std.specs.Vec.{with_item}
use Rattle.std.specs.Box.{with_value}
use Rattle.cluster.specs.Commanding.{CarriedBefore}
use Rattle.cluster.proofs.Places.{carried_more}
use Rattle.cluster.proofs.all.carry_out_each.Goals as goal

pub loop-i-preserved : goal.loop-i-preserved
loop-i-preserved g c =
    let n = c.args.turnstile.now.id.slots in
    let S = g.R.Rules.protocol (n - 1) in
    let cells = c.loop-i.turns.values in
    let i = c.loop-i.i in
    let inv = c.loop-i.invariant in
    let many = inv.count ∙ c.requires.count in
    let partitions = c.partitions-i-end.ensures.count in
    let test = c.loop-i-test.true in
    let below : i < length cells.items = omega arith in
    let numbered = g.met.R.Rules.numbered (n - 1) in
    let partition : i < S.control = omega arith in
    let b = c.cell.result.now in
    record {
      turns = λ j. record { numbers = (inv.turns j).numbers; values = with_item cells i (with_value b c.carry_out_in.new.cell); counted = (inv.turns j).counted };
      count = length-set cells.items i (with_value b c.carry_out_in.new.cell) ∙ inv.count;
      carried =
          carried_more S g.R.CellRules.locals g.R.CommandRules.target g.R.CommandRules.numbers cells.items (reverse c.args.pass.now.front) c.args.command.now
          c.args.pass.now.moment i b (with_value b c.carry_out_in.new.cell) c.deref_mut.result.now below partition c.cell.ensures.value
          c.deref_mut.ensures.value inv.carried (c.carry_out_in.ensures (n - 1) c.args.pass.now.moment);
    }

pub returns-clause-carried : goal.returns-clause-carried
returns-clause-carried g c =
    let end = c.loop-i.auto.i-end in
    let test = c.loop-i-test.false in
    let partitions = c.partitions-i-end.ensures.count in
    let is : c.loop-i.i ≡ c.partitions-i-end.result = omega arith in
    subst
    (λ k. CarriedBefore (g.R.Rules.protocol (c.args.turnstile.now.id.slots - 1)) g.R.CellRules.locals g.R.CommandRules.target g.R.CommandRules.numbers k
    c.loop-i.turns.values.items (reverse c.args.pass.now.front) c.args.command.now c.args.pass.now.moment) (is ∙ partitions) c.loop-i.invariant.carried
