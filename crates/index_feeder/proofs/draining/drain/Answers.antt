use Rattle.std.proofs.Common.{◌-◌, ◌+◌, sym, arith}
use Rattle.std.proofs.lemmas.Result.{err_from_is_err_and}
use Rattle.index_feeder.proofs.Made.{some_more, round_used, rounds_none, rounds_more, rounds_end, rounds_partly, rounds_used, drain_units}
use Rattle.index_feeder.proofs.Drained.{leaves_drained}
use Rattle.index_feeder.proofs.draining.drain.Goals as goal

pub rounds-init : goal.rounds-init
rounds-init g c = rounds_none (g.R.Rules.protocol (c.args.caller.now.id.slots - 1)) (c.args.caller.now.id.slots - 1) c.args.pass.now

pub rounds-preserved : goal.rounds-preserved
rounds-preserved g c =
    let n = c.args.caller.now.id.slots - 1 in
    rounds_more (g.R.Rules.protocol n) n c.args.pass.now c.rounds.fed c.rounds.pass c.rounds.invariant c.in_ok-more.more c.feed_round.new.pass
    (some_more c.in_ok-more.more c.if-more-eq0.false) c.in_ok-more.ensures.ok

pub rounds-smaller : goal.rounds-smaller
rounds-smaller g c =
    let n = c.args.caller.now.id.slots - 1 in
    omega (
      arith,
      round_used (g.R.Rules.protocol n) n c.rounds.pass c.in_ok-more.more c.feed_round.new.pass c.in_ok-more.ensures.ok,
      some_more c.in_ok-more.more c.if-more-eq0.false,
      c.facts.ensures.budget,
    )

pub overflow_add-fed : goal.overflow_add-fed
overflow_add-fed g c =
    let n = c.args.caller.now.id.slots - 1 in
    let S = g.R.Rules.protocol n in
    let p = c.args.pass.now in
    let r = c.feed_round.new.pass in
    let more =
    rounds_more S n p c.rounds.fed c.rounds.pass c.rounds.invariant c.in_ok-more.more r (some_more c.in_ok-more.more c.if-more-eq0.false)
    c.in_ok-more.ensures.ok in
    omega (arith, rounds_used S n p (c.rounds.fed + c.in_ok-more.more) r more, c.facts.ensures.budget)

pub returns-in_err-more-clause-err : goal.returns-in_err-more-clause-err
returns-in_err-more-clause-err g c =
    let n = c.args.caller.now.id.slots - 1 in
    let e = err_from_is_err_and c.from_residual.result c.from_residual.ensures.1 in
    rw (e.1, e.2)
    (rounds_partly (g.R.Rules.protocol n) n c.args.pass.now c.rounds.fed c.rounds.pass c.rounds.invariant c.in_err-more.field-0.0
    c.feed_round.new.pass c.in_err-more.ensures.err)

pub returns-then-more-eq0-clause-ok : goal.returns-then-more-eq0-clause-ok
returns-then-more-eq0-clause-ok g c =
    let n = c.args.caller.now.id.slots - 1 in
    rounds_end (g.R.Rules.protocol n) n c.args.pass.now c.rounds.fed c.rounds.pass c.rounds.invariant c.in_ok-more.more c.feed_round.new.pass
    c.if-more-eq0.true c.in_ok-more.ensures.ok

pub returns-then-more-eq0-clause-drained : goal.returns-then-more-eq0-clause-drained
returns-then-more-eq0-clause-drained g c =
    let n = c.args.caller.now.id.slots - 1 in
    let S = g.R.Rules.protocol n in
    let p = c.args.pass.now in
    let r = c.feed_round.new.pass in
    let drains =
    rounds_end S n p c.rounds.fed c.rounds.pass c.rounds.invariant c.in_ok-more.more r c.if-more-eq0.true c.in_ok-more.ensures.ok in
    leaves_drained S (g.met.R.Rules.lawful n) n p c.rounds.fed r (sym (g.met.R.Rules.numbered n)) c.feed_round.ensures.some
    c.facts.ensures.legal drains

pub returns-then-more-eq0-clause-units : goal.returns-then-more-eq0-clause-units
returns-then-more-eq0-clause-units g c =
    let n = c.args.caller.now.id.slots - 1 in
    let S = g.R.Rules.protocol n in
    let p = c.args.pass.now in
    let r = c.feed_round.new.pass in
    drain_units S n p c.rounds.fed r
    (rounds_end S n p c.rounds.fed c.rounds.pass c.rounds.invariant c.in_ok-more.more r c.if-more-eq0.true c.in_ok-more.ensures.ok)
