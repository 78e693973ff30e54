use Rattle.std.proofs.Common.{◌-◌, ◌+◌, subst, arith}
use Rattle.std.proofs.lemmas.Result.{err_from_is_err_and}
use Rattle.index_feeder.specs.Feeds.{Feeds}
use Rattle.index_feeder.proofs.Made.{feeds_none, feeds_more, feeds_end, feeds_partly, feeds_used}
use Rattle.index_feeder.proofs.draining.empty_one.Goals as goal

pub feeds-init : goal.feeds-init
feeds-init g c = feeds_none (g.R.Rules.protocol (c.args.caller.now.id.slots - 1)) c.args.pass.now

pub feeds-preserved : goal.feeds-preserved
feeds-preserved g c =
    let S = g.R.Rules.protocol (c.args.caller.now.id.slots - 1) in
    let q = c.feeds.pass in
    let r = c.feed_one.new.pass in
    feeds_more S c.args.pass.now c.feeds.fed q c.feeds.invariant c.args.cell r
    (subst (λ feed. Feeds S q c.args.cell feed r) c.in-Fed.is c.in_ok-feed_one.ensures.ok)

pub feeds-smaller : goal.feeds-smaller
feeds-smaller g c =
    let S = g.R.Rules.protocol (c.args.caller.now.id.slots - 1) in
    let p = c.args.pass.now in
    let q = c.feeds.pass in
    let r = c.feed_one.new.pass in
    let more =
    feeds_more S p c.feeds.fed q c.feeds.invariant c.args.cell r
    (subst (λ feed. Feeds S q c.args.cell feed r) c.in-Fed.is c.in_ok-feed_one.ensures.ok) in
    omega (arith, feeds_used S p c.feeds.fed q c.feeds.invariant, feeds_used S p (c.feeds.fed + 1) r more, c.facts.ensures.budget)

pub overflow_add-fed : goal.overflow_add-fed
overflow_add-fed g c =
    let S = g.R.Rules.protocol (c.args.caller.now.id.slots - 1) in
    let p = c.args.pass.now in
    let q = c.feeds.pass in
    let r = c.feed_one.new.pass in
    let more =
    feeds_more S p c.feeds.fed q c.feeds.invariant c.args.cell r
    (subst (λ feed. Feeds S q c.args.cell feed r) c.in-Fed.is c.in_ok-feed_one.ensures.ok) in
    omega (arith, feeds_used S p (c.feeds.fed + 1) r more, c.facts.ensures.budget)

pub returns-in-Empty-clause-ok : goal.returns-in-Empty-clause-ok
returns-in-Empty-clause-ok g c =
    let S = g.R.Rules.protocol (c.args.caller.now.id.slots - 1) in
    let q = c.feeds.pass in
    let r = c.feed_one.new.pass in
    feeds_end S c.args.pass.now c.feeds.fed q c.feeds.invariant c.args.cell r
    (subst (λ feed. Feeds S q c.args.cell feed r) c.in-Empty.is c.in_ok-feed_one.ensures.ok)

pub returns-in_err-feed_one-clause-err : goal.returns-in_err-feed_one-clause-err
returns-in_err-feed_one-clause-err g c =
    let e = err_from_is_err_and c.from_residual.result c.from_residual.ensures.1 in
    rw (e.1, e.2)
    (feeds_partly (g.R.Rules.protocol (c.args.caller.now.id.slots - 1)) c.args.pass.now c.feeds.fed c.feeds.pass c.feeds.invariant c.args.cell
    c.in_err-feed_one.field-0.0 c.feed_one.new.pass c.in_err-feed_one.ensures.err)
