use Rattle.std.proofs.Common.{◌-◌, ◌+◌, arith}
use Rattle.std.proofs.lemmas.Result.{err_from_is_err_and}
use Rattle.index_feeder.proofs.Made.{round_none, round_more, round_partly, round_used}
use Rattle.index_feeder.proofs.draining.feed_round.Goals as goal

pub loop-cell-init : goal.loop-cell-init
loop-cell-init g c = round_none (g.R.Rules.protocol (c.args.caller.now.id.slots - 1)) c.args.pass.now

pub loop-cell-preserved : goal.loop-cell-preserved
loop-cell-preserved g c =
    round_more (g.R.Rules.protocol (c.args.caller.now.id.slots - 1)) c.loop-cell.cell c.args.pass.now c.loop-cell.fed c.loop-cell.pass
    c.loop-cell.invariant c.in_ok-more.more c.empty_one.new.pass c.in_ok-more.ensures.ok

pub overflow_add-fed : goal.overflow_add-fed
overflow_add-fed g c =
    let S = g.R.Rules.protocol (c.args.caller.now.id.slots - 1) in
    let p = c.args.pass.now in
    let r = c.empty_one.new.pass in
    let more =
    round_more S c.loop-cell.cell p c.loop-cell.fed c.loop-cell.pass c.loop-cell.invariant c.in_ok-more.more r c.in_ok-more.ensures.ok in
    omega (arith, round_used S (c.loop-cell.cell + 1) p (c.loop-cell.fed + c.in_ok-more.more) r more, c.facts.ensures.budget)

pub returns-in_err-more-clause-err : goal.returns-in_err-more-clause-err
returns-in_err-more-clause-err g c =
    let n = c.args.caller.now.id.slots - 1 in
    let e = err_from_is_err_and c.from_residual.result c.from_residual.ensures.1 in
    rw (e.1, e.2)
    (round_partly (g.R.Rules.protocol n) c.loop-cell.cell c.args.pass.now c.loop-cell.fed c.loop-cell.pass c.loop-cell.invariant n
    c.in_err-more.field-0.0 c.empty_one.new.pass (omega (arith, c.loop-cell-test.true, c.partitions-cell-end.ensures.count))
    c.in_err-more.ensures.err)
