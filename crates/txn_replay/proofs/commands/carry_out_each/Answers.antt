use Rattle.std.proofs.Common.{◌<◌, length, ◌∙◌, arith}
use Rattle.txn_replay.proofs.Commanded.{all_carried, carried_more, none_carried}
use Rattle.txn_replay.proofs.commands.carry_out_each.Goals as goal

pub loop-place-init : goal.loop-place-init
loop-place-init g c =
    none_carried (g.R.Rules.protocol c.args.partitions) g.R.CellRules.locals c.args.cells.now.items c.args.command.now c.args.moment

pub loop-place-preserved : goal.loop-place-preserved
loop-place-preserved g c =
    let inv = c.loop-place.invariant in
    let test = c.loop-place-test.true in
    let same = inv.count in
    let many = c.requires in
    let below : c.loop-place.place < length c.loop-place.cells.items = omega arith in
    carried_more (g.R.Rules.protocol c.args.partitions) g.R.CellRules.locals c.loop-place.place c.args.cells.now.items c.loop-place.cells.items
    c.index_mut.result.now c.carry_out_in.new.cell c.args.command.now c.args.moment below c.index_mut.ensures.value
    (c.in_ok-carry_out_in.ensures c.args.partitions) inv

pub returns-clause-count : goal.returns-clause-count
returns-clause-count g c = c.loop-place.invariant.count ∙ c.requires

pub returns-clause-carried : goal.returns-clause-carried
returns-clause-carried g c =
    let end = c.loop-place-test.false in
    let many = c.requires in
    all_carried (g.R.Rules.protocol c.args.partitions) g.R.CellRules.locals c.loop-place.place c.args.cells.now.items c.loop-place.cells.items
    c.args.command.now c.args.moment (omega arith) c.loop-place.invariant
