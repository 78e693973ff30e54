use Rattle.std.proofs.Common.{sym, subst, reverse, not}
use mathlib.Core.Bool.{beq}
use Rattle.txn_core.specs.Legal.{HasGround}
use Rattle.std.specs.Prelude.{◌↔◌, IsTrue}
use Rattle.txn_core.specs.Breaks.{HasGroundFor}
use Rattle.txn_core.proofs.Duties.{ground_other, away, so}
use Rattle.txn_core.proofs.order.has_ground_for.Goals as goal

pub returns-then-decided-commit : goal.returns-then-decided-commit
returns-then-decided-commit g c =
    λ n. subst (λ m. IsTrue (not (beq c.in-Decide.decided c.args.commit)) ↔ HasGroundFor (g.R.Rules.protocol n) c.args.commit (reverse c.args.past.now) m) (sym c.in-Decide.is) (away c.in-Decide.decided c.args.commit c.if-decided-commit.true)

pub returns-else-decided-commit : goal.returns-else-decided-commit
returns-else-decided-commit g c =
    λ n. subst (λ m. IsTrue c.has_ground.result ↔ HasGroundFor (g.R.Rules.protocol n) c.args.commit (reverse c.args.past.now) m) (sym c.in-Decide.is)
    (so c.in-Decide.decided c.args.commit c.if-decided-commit.false c.has_ground.result
    (subst (λ l. IsTrue c.has_ground.result ↔ HasGround (g.R.Rules.protocol n) (reverse c.args.past.now) c.in-Decide.number c.in-Decide.decided l) c.as_slice.ensures (c.has_ground.ensures n)))

pub returns-in_default : goal.returns-in_default
returns-in_default g c = λ n. ground_other (g.R.Rules.protocol n) (reverse c.args.past.now) c.args.commit c.args.message.now c.in_default.not-Decide
