use Rattle.std.proofs.Common.{refl, inl, inr, arith}
use Rattle.std.proofs.lemmas.Bool.{cases_lt}
use Rattle.txn_core.proofs.Basics.{true_false}
use Rattle.txn_replay.proofs.Times.{timely_more, timely_all, timely_not}
use Rattle.txn_replay.proofs.timely.is_timely.Goals as goal

pub returns-then-is_later : goal.returns-then-is_later
returns-then-is_later g c =
    let late = c.is_later.ensures.0 c.if-is_later.true in
    (λ e. absurd (cc), λ timely. absurd (timely_not c.args.past.now c.args.pass c.args.moment c.loop-entry.entry-index c.entry-item.result c.loop-entry-test.true c.entry-item.is late.0 late.1 timely))

pub loop-entry-preserved : goal.loop-entry-preserved
loop-entry-preserved g c =
    timely_more c.args.past.now c.args.pass c.args.moment c.loop-entry.entry-index c.entry-item.result c.loop-entry-test.true c.entry-item.is
    (λ own. elim (cases_lt c.args.moment c.entry-item.result.moment) [ inl lt ↦ absurd (true_false c.is_later.result (c.is_later.ensures.1 (own, lt)) c.if-is_later.false) | inr ge ↦ ge ])
    c.loop-entry.invariant

pub returns : goal.returns
returns g c = (λ e. timely_all c.args.past.now c.args.pass c.args.moment c.loop-entry.entry-index (omega arith) (omega arith) c.loop-entry.invariant, λ t. refl)
