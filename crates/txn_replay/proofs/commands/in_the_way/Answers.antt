use Rattle.std.proofs.Common.{sym, ◌∙◌, arith}
use Rattle.txn_replay.specs.Standing.{own}
use Rattle.txn_replay.proofs.Commanded.{all_clear, clear_more, first_found, holder_here}
use Rattle.txn_replay.proofs.commands.in_the_way.Goals as goal

pub loop-cell-preserved : goal.loop-cell-preserved
loop-cell-preserved g c = λ n es stand.
    let S = g.R.Rules.protocol n in
    let i = c.loop-cell.cell-index in
    clear_more S (own S es) c.args.command.now i c.first_holder-holder.result (sym c.is_some.ensures ∙ c.if-is_some.false)
    (holder_here S g.R.CellRules.locals c.args.cells.now es i c.cell-item.result c.loop-cell-test.true c.cell-item.is c.args.command.now
    c.first_holder-holder.result (c.first_holder-holder.ensures n i) stand) (c.loop-cell.invariant n es stand)

pub returns-then-is_some : goal.returns-then-is_some
returns-then-is_some g c = λ n es some stand.
    let S = g.R.Rules.protocol n in
    let i = c.loop-cell.cell-index in
    first_found S (own S es) c.args.command.now i c.first_holder-holder.result (sym c.is_some.ensures ∙ c.if-is_some.true)
    (holder_here S g.R.CellRules.locals c.args.cells.now es i c.cell-item.result c.loop-cell-test.true c.cell-item.is c.args.command.now
    c.first_holder-holder.result (c.first_holder-holder.ensures n i) stand) (c.loop-cell.invariant n es stand)

pub returns : goal.returns
returns g c = λ n es some stand.
    let S = g.R.Rules.protocol n in
    let numbered = g.met.R.Rules.numbered n in
    let many = stand.count in
    let end = c.loop-cell-test.false in
    all_clear S (own S es) c.args.command.now (g.met.R.Rules.lawful n) (omega arith) c.loop-cell.cell-index (omega arith)
    (c.loop-cell.invariant n es stand)
