use Rattle.std.proofs.Common.{sym, ◌∙◌, arith}
use Rattle.txn_replay.specs.Held.{is_listed}
use Rattle.txn_replay.proofs.Lists.{all_more, all_passed, one_fails}
use Rattle.txn_replay.proofs.pendings.are_among.Goals as goal

pub returns-then-not-is_listed : goal.returns-then-not-is_listed
returns-then-not-is_listed g c = λ n.
    one_fails (is_listed (g.R.Rules.protocol n).core c.args.others.now) c.args.pendings.now c.loop-held.held-index c.held-item.result
    c.loop-held-test.true c.held-item.is (sym (c.is_listed.ensures n) ∙ c.if-not-is_listed.true) (c.loop-held.invariant n)

pub loop-held-preserved : goal.loop-held-preserved
loop-held-preserved g c = λ n.
    all_more (is_listed (g.R.Rules.protocol n).core c.args.others.now) c.args.pendings.now c.loop-held.held-index c.held-item.result
    c.loop-held-test.true c.held-item.is (sym (c.is_listed.ensures n) ∙ c.if-not-is_listed.false) (c.loop-held.invariant n)

pub returns : goal.returns
returns g c = λ n.
    all_passed (is_listed (g.R.Rules.protocol n).core c.args.others.now) c.args.pendings.now c.loop-held.held-index (omega arith)
    (c.loop-held.invariant n)
