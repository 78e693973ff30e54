use Rattle.std.proofs.Common.{sym, ◌∙◌}
use Rattle.txn_core.proofs.Choices.{apart_found, apart_goes_on}
use Rattle.txn_core.proofs.grounds.are_apart.Goals as goal

pub returns-then-touch : goal.returns-then-touch
returns-then-touch g c =
    λ n. apart_found (g.R.Rules.protocol n).core c.in-Some.first.now c.in-Some.others.now c.loop-first.rest.now c.key_of.result.now (c.key_of.ensures n) c.in-Some.ensures.cases.0 _ (c.loop-first.invariant n) (sym (c.touch.ensures n) ∙ c.if-touch.true)

pub loop-first-preserved : goal.loop-first-preserved
loop-first-preserved g c =
    λ n. apart_goes_on (g.R.Rules.protocol n).core c.in-Some.first.now c.in-Some.others.now c.loop-first.rest.now c.key_of.result.now (c.key_of.ensures n) c.in-Some.ensures.cases.0 _ (c.loop-first.invariant n) (sym (c.touch.ensures n) ∙ c.if-touch.false)
