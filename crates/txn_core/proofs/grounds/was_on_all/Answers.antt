use Rattle.std.proofs.Common.{sym, ap, ◌∙◌, reverse, arith, refl}
use Rattle.std.specs.List.{list_any}
use Rattle.txn_core.specs.Replay.{tells_on}
use Rattle.txn_core.proofs.Choices.{each_more, not_each}
use Rattle.txn_core.proofs.grounds.was_on_all.Goals as goal

pub returns-then-not-was_on : goal.returns-then-not-was_on
returns-then-not-was_on g c =
    λ n. (
      λ e. absurd (cc),
      λ all. absurd (not_each (λ y. list_any (λ e. tells_on (g.R.Rules.protocol n) c.args.fact c.args.number ((g.R.Rules.protocol n).core.key_of y) e.message e.answer) (reverse c.args.past.now)) c.args.actions.now c.loop-action.action-index c.action-item.result c.loop-action-test.true c.action-item.is (ap (λ z. list_any (λ e. tells_on (g.R.Rules.protocol n) c.args.fact c.args.number z e.message e.answer) (reverse c.args.past.now)) (sym (c.key_of.ensures n)) ∙ sym (c.was_on.ensures n) ∙ c.if-not-was_on.true) all),
    )

pub loop-action-preserved : goal.loop-action-preserved
loop-action-preserved g c =
    λ n. each_more (λ y. list_any (λ e. tells_on (g.R.Rules.protocol n) c.args.fact c.args.number ((g.R.Rules.protocol n).core.key_of y) e.message e.answer) (reverse c.args.past.now)) c.args.actions.now c.loop-action.action-index c.action-item.result c.loop-action-test.true c.action-item.is (ap (λ z. list_any (λ e. tells_on (g.R.Rules.protocol n) c.args.fact c.args.number z e.message e.answer) (reverse c.args.past.now)) (sym (c.key_of.ensures n)) ∙ sym (c.was_on.ensures n) ∙ c.if-not-was_on.false) (c.loop-action.invariant n)

pub returns : goal.returns
returns g c = λ n. ((λ _ k d within. c.loop-action.invariant n k (omega arith) d), λ _. refl)
