use Rattle.std.proofs.Common.{◌-◌, ◌<◌, length, reverse, ◌∙◌, arith}
use Rattle.std.proofs.lemmas.List.{length-set}
use Rattle.std.specs.Vec.{with_item}
use Rattle.std.specs.Box.{with_value}
use Rattle.cluster.proofs.Places.{stand_kept}
use Rattle.cluster.proofs.all.abandon_all.Goals as goal

pub loop-i-preserved : goal.loop-i-preserved
loop-i-preserved g c =
    let n = c.args.turnstile.now.id.slots in
    let S = g.R.Rules.protocol (n - 1) in
    let cells = c.loop-i.turns.values in
    let i = c.loop-i.i in
    let inv = c.loop-i.invariant in
    let many = inv.count ∙ c.requires.count in
    let partitions = c.partitions-i-end.ensures.count in
    let test = c.loop-i-test.true in
    let below : i < length cells.items = omega arith in
    let b = c.cell.result.now in
    record {
      turns = λ j. record { numbers = (inv.turns j).numbers; values = with_item cells i (with_value b c.abandon_in.new.cell); counted = (inv.turns j).counted };
      count = length-set cells.items i (with_value b c.abandon_in.new.cell) ∙ inv.count;
      stand =
          stand_kept S g.R.CellRules.locals cells.items (reverse c.args.pass.now.front) i b (with_value b c.abandon_in.new.cell) c.deref_mut.result.now below
          c.cell.ensures.value c.deref_mut.ensures.value inv.stand (c.abandon_in.ensures (n - 1));
    }
