use Rattle.std.proofs.Common.{reverse}
use Rattle.txn_core.proofs.Duties.{over_then, over_else}
use Rattle.txn_core.proofs.order.is_ended.Goals as goal

pub returns-then-was : goal.returns-then-was
returns-then-was g c = λ n. over_then (g.R.Rules.protocol n) (reverse c.args.past.now) c.args.decided c.args.ended c.args.number c.was.result c.was.ensures c.actions_of.result.now c.actions_of.ensures c.if-was.true c.was_on_all.result (c.was_on_all.ensures n)

pub returns-else-was : goal.returns-else-was
returns-else-was g c = λ n. over_else (g.R.Rules.protocol n) (reverse c.args.past.now) c.args.decided c.args.ended c.args.number c.was.result c.was.ensures c.if-was.false
