use Rattle.std.proofs.Common.{sym, subst, reverse}
use Rattle.std.specs.Prelude.{◌↔◌, IsTrue}
use Rattle.txn_core.specs.Breaks.{NamesBegun}
use Rattle.txn_core.proofs.Duties.{tested, begun_other}
use Rattle.txn_core.proofs.order.names_begun.Goals as goal

pub returns-in-Begin : goal.returns-in-Begin
returns-in-Begin g c = λ n pass. subst (λ m. IsTrue c.may_begin.result ↔ NamesBegun (g.R.Rules.protocol n) (reverse c.args.past.now) pass m) (sym c.in-Begin.is) (rw c.as_slice.ensures at c.may_begin.ensures n)

pub returns-in-Prepare : goal.returns-in-Prepare
returns-in-Prepare g c = λ n pass. subst (λ m. IsTrue c.may_prepare.result ↔ NamesBegun (g.R.Rules.protocol n) (reverse c.args.past.now) pass m) (sym c.in-Prepare.is) (c.may_prepare.ensures n pass)

pub returns-in-Decide : goal.returns-in-Decide
returns-in-Decide g c = λ n pass. subst (λ m. IsTrue c.was.result ↔ NamesBegun (g.R.Rules.protocol n) (reverse c.args.past.now) pass m) (sym c.in-Decide.is) (tested c.was.result _ c.was.ensures)

pub returns-in_default : goal.returns-in_default
returns-in_default g c = λ n pass. begun_other (g.R.Rules.protocol n) (reverse c.args.past.now) pass c.args.message.now c.in_default.not-Begin c.in_default.not-Prepare c.in_default.not-Decide
