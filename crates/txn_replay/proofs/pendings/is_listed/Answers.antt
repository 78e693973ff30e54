use Rattle.std.proofs.Common.{sym, ◌∙◌, arith}
use Rattle.txn_core.proofs.Reversed.{any_reverse, one_passes, none_more, none_all}
use Rattle.txn_replay.specs.Held.{is_hold}
use Rattle.txn_replay.proofs.pendings.is_listed.Goals as goal

pub returns-then-is_hold : goal.returns-then-is_hold
returns-then-is_hold g c = λ n.
    let test = is_hold (g.R.Rules.protocol n).core c.args.held.now in
    sym (any_reverse test c.args.others.now
    ∙ one_passes test c.args.others.now c.loop-other.other-index c.other-item.result c.loop-other-test.true c.other-item.is
    (sym (c.is_hold.ensures n) ∙ c.if-is_hold.true))

pub loop-other-preserved : goal.loop-other-preserved
loop-other-preserved g c = λ n.
    none_more (is_hold (g.R.Rules.protocol n).core c.args.held.now) c.args.others.now c.loop-other.other-index c.other-item.result
    c.loop-other-test.true c.other-item.is (c.loop-other.invariant n) (sym (c.is_hold.ensures n) ∙ c.if-is_hold.false)

pub returns : goal.returns
returns g c = λ n.
    let test = is_hold (g.R.Rules.protocol n).core c.args.held.now in
    none_all test c.args.others.now c.loop-other.other-index (omega arith) (omega arith) (c.loop-other.invariant n)
    ∙ sym (any_reverse test c.args.others.now)
