use Rattle.txn_core.proofs.Duties.{other, tested, fails}
use Rattle.txn_core.proofs.order.may_release.Goals as goal

pub returns-else-was : goal.returns-else-was
returns-else-was g c = other (fails c.was.result _ c.was.ensures c.if-was.false) c.was-else-was.result (tested c.was-else-was.result _ c.was-else-was.ensures)
