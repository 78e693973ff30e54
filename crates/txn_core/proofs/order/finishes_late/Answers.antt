use Rattle.std.proofs.Common.{sym, subst, ◌∙◌, reverse}
use Rattle.std.specs.Prelude.{◌↔◌, IsTrue}
use Rattle.txn_core.specs.Breaks.{FinishesLate}
use Rattle.txn_core.proofs.Duties.{second, finishes_other}
use Rattle.txn_core.proofs.order.finishes_late.Goals as goal

pub returns-then-was : goal.returns-then-was
returns-then-was g c = λ n pass. subst (λ m. IsTrue c.is_settled.result ↔ FinishesLate (g.R.Rules.protocol n) (reverse c.args.past.now) pass m) (sym c.in-Done.is) (second (sym c.was.ensures ∙ c.if-was.true) c.is_settled.result (c.is_settled.ensures n))

pub returns-in_default : goal.returns-in_default
returns-in_default g c = λ n pass. finishes_other (g.R.Rules.protocol n) (reverse c.args.past.now) pass c.args.message.now c.in_default.not-Done
