use Rattle.txn_core.proofs.Duties.{other, one}
use Rattle.txn_core.proofs.order.is_settled.Goals as goal

pub returns-then-is_ended : goal.returns-then-is_ended
returns-then-is_ended g c = λ n. one ((c.is_ended.ensures n).0 c.if-is_ended.true) c.is_ended.result c.if-is_ended.true

pub returns-else-is_ended : goal.returns-else-is_ended
returns-else-is_ended g c = λ n. other (λ x. let t = (c.is_ended.ensures n).1 x in absurd (cc)) c.is_ended-else-is_ended.result (c.is_ended-else-is_ended.ensures n)
