use Rattle.std.proofs.Common.{sym, ◌∙◌, reverse}
use Rattle.txn_core.proofs.Duties.{third, no_first_of_three, no_second_of_three, fails, on_begun}
use Rattle.txn_core.proofs.order.may_prepare.Goals as goal

pub returns-then-not-was : goal.returns-then-not-was
returns-then-not-was g c = λ n pass. no_first_of_three (fails c.was.result _ c.was.ensures c.if-not-was.true)

pub returns-then-not-has_stamp : goal.returns-then-not-has_stamp
returns-then-not-has_stamp g c = λ n pass. no_second_of_three (λ e. let t = c.has_stamp.ensures.1 e in absurd (cc))

pub returns : goal.returns
returns g c =
    λ n pass. third (sym c.was.ensures ∙ c.if-not-was.false) (c.has_stamp.ensures.0 c.if-not-has_stamp.false) c.is_action_of.result
    (on_begun (g.R.Rules.protocol n) (reverse c.args.past.now) c.args.number ((g.R.Rules.protocol n).core.key_of c.args.action.now) c.args.action.now c.actions_of.result.now c.actions_of.ensures c.is_action_of.result (c.is_action_of.ensures n))
