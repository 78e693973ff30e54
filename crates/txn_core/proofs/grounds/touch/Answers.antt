use Rattle.std.proofs.Common.{sym, ap, ◌∙◌, arith}
use Rattle.txn_core.proofs.Reversed.{any_reverse, none_more, none_all}
use Rattle.txn_core.proofs.grounds.touch.Goals as goal

pub loop-action-preserved : goal.loop-action-preserved
loop-action-preserved g c =
    λ n. none_more (λ x. (g.R.Rules.protocol n).core.same c.args.key.now ((g.R.Rules.protocol n).core.key_of x)) c.args.actions.now c.loop-action.action-index c.action-item.result c.loop-action-test.true c.action-item.is (c.loop-action.invariant n)
    (ap (λ k. (g.R.Rules.protocol n).core.same c.args.key.now k) (sym (c.key_of.ensures n)) ∙ sym (c.is_same.ensures n) ∙ c.if-is_same.false)

pub returns : goal.returns
returns g c =
    λ n. none_all (λ x. (g.R.Rules.protocol n).core.same c.args.key.now ((g.R.Rules.protocol n).core.key_of x)) c.args.actions.now c.loop-action.action-index (omega arith) (omega arith) (c.loop-action.invariant n) ∙ sym (any_reverse (λ x. (g.R.Rules.protocol n).core.same c.args.key.now ((g.R.Rules.protocol n).core.key_of x)) c.args.actions.now)
