use Rattle.std.proofs.Common.{sym, subst, ◌∙◌, reverse}
use Rattle.std.specs.Prelude.{◌↔◌, IsTrue}
use Rattle.txn_core.specs.Breaks.{ForgetsLate}
use Rattle.txn_core.proofs.Basics.{true_false}
use Rattle.txn_core.proofs.Duties.{forgets_other, second, tested}
use Rattle.txn_core.proofs.order.forgets_late.Goals as goal

pub returns-then-was : goal.returns-then-was
returns-then-was g c = λ n. subst (λ m. IsTrue c.was_begun_by.result ↔ ForgetsLate (g.R.Rules.protocol n) (reverse c.args.past.now) c.args.pass m) (sym c.in-Forget.is) (second (sym c.was.ensures ∙ c.if-was.true) c.was_begun_by.result (tested c.was_begun_by.result _ c.was_begun_by.ensures))

pub returns-else-was : goal.returns-else-was
returns-else-was g c = λ n. subst (λ m. IsTrue c.was.result ↔ ForgetsLate (g.R.Rules.protocol n) (reverse c.args.past.now) c.args.pass m) (sym c.in-Forget.is) (λ t. true_false c.was.result t c.if-was.false, λ h. c.was.ensures ∙ h.0)

pub returns-in_default : goal.returns-in_default
returns-in_default g c = λ n. forgets_other (g.R.Rules.protocol n) (reverse c.args.past.now) c.args.pass c.args.message.now c.in_default.not-Forget
