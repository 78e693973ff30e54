use Rattle.std.proofs.Common.{sym, ◌∙◌, arith}
use Rattle.txn_core.proofs.Reversed.{any_reverse, one_passes, none_more, none_all}
use Rattle.txn_replay.proofs.pendings.is_again.Goals as goal

pub returns-then-is_same : goal.returns-then-is_same
returns-then-is_same g c = λ n.
    sym (any_reverse (λ p. (g.R.Rules.protocol n).core.same c.args.key.now p.key) c.args.others.now
    ∙ one_passes (λ p. (g.R.Rules.protocol n).core.same c.args.key.now p.key) c.args.others.now c.loop-held.held-index c.held-item.result
    c.loop-held-test.true c.held-item.is (sym (c.is_same.ensures n) ∙ c.if-is_same.true))

pub loop-held-preserved : goal.loop-held-preserved
loop-held-preserved g c = λ n.
    none_more (λ p. (g.R.Rules.protocol n).core.same c.args.key.now p.key) c.args.others.now c.loop-held.held-index c.held-item.result
    c.loop-held-test.true c.held-item.is (c.loop-held.invariant n) (sym (c.is_same.ensures n) ∙ c.if-is_same.false)

pub returns : goal.returns
returns g c = λ n.
    none_all (λ p. (g.R.Rules.protocol n).core.same c.args.key.now p.key) c.args.others.now c.loop-held.held-index (omega arith) (omega arith)
    (c.loop-held.invariant n)
    ∙ sym (any_reverse (λ p. (g.R.Rules.protocol n).core.same c.args.key.now p.key) c.args.others.now)
