use Rattle.std.proofs.Common.{sym, subst, reverse}
use Rattle.std.specs.Prelude.{◌↔◌, IsTrue}
use Rattle.txn_core.specs.Breaks.{AppliesLate}
use Rattle.txn_core.proofs.Duties.{tested, applies_other}
use Rattle.txn_core.proofs.order.applies_late.Goals as goal

pub returns-in-Apply : goal.returns-in-Apply
returns-in-Apply g c = λ n pass. subst (λ m. IsTrue c.was.result ↔ AppliesLate (g.R.Rules.protocol n) (reverse c.args.past.now) pass m) (sym c.in-Apply.is) (tested c.was.result _ c.was.ensures)

pub returns-in_default : goal.returns-in_default
returns-in_default g c = λ n pass. applies_other (g.R.Rules.protocol n) (reverse c.args.past.now) pass c.args.message.now c.in_default.not-Apply
