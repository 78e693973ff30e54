use Rattle.std.proofs.Common.{reverse}
use Rattle.txn_core.proofs.Duties.{ground_commit, ground_cancel}
use Rattle.txn_core.proofs.order.has_ground.Goals as goal

pub returns-then-commit : goal.returns-then-commit
returns-then-commit g c = λ n. ground_commit (g.R.Rules.protocol n) (reverse c.args.past.now) c.args.number c.args.reasons.now c.actions_of-actions.result.now c.actions_of-actions.ensures c.args.commit c.if-commit.true c.was_on_all.result (c.was_on_all.ensures n)

pub returns-else-commit : goal.returns-else-commit
returns-else-commit g c = λ n. ground_cancel (g.R.Rules.protocol n) (reverse c.args.past.now) c.args.number c.args.reasons.now c.actions_of-actions.result.now c.actions_of-actions.ensures c.args.commit c.if-commit.false c.has_cause.result (c.has_cause.ensures n)
