use Rattle.std.proofs.Common.{sym, ap, ◌∙◌, arith}
use Rattle.control_cell.proofs.Sequences.{all_more, all_passed}
use Rattle.control_cell.proofs.beginning.has_tables.Goals as goal

pub loop-action-preserved : goal.loop-action-preserved
loop-action-preserved g c =
    λ n.
    all_more (λ x. (g.R.Rules.protocol n).core.there c.args.catalog.now ((g.R.Rules.protocol n).core.key_of x)) c.args.actions.now
    c.loop-action.action-index c.action-item.result c.loop-action-test.true c.action-item.is
    (ap (λ k. (g.R.Rules.protocol n).core.there c.args.catalog.now k) (sym (c.key_of.ensures n)) ∙ sym (c.is_there.ensures n)
    ∙ c.if-not-is_there.false)
    (c.loop-action.invariant n)

pub returns : goal.returns
returns g c =
    λ n.
    all_passed (λ x. (g.R.Rules.protocol n).core.there c.args.catalog.now ((g.R.Rules.protocol n).core.key_of x)) c.args.actions.now
    c.loop-action.action-index (omega arith) (c.loop-action.invariant n)
