use Rattle.std.proofs.Common.{sym, subst, reverse}
use Rattle.std.specs.Prelude.{◌↔◌, IsTrue}
use Rattle.txn_core.specs.Breaks.{FeedsInOrder}
use Rattle.txn_core.proofs.Duties.{tested, feeds_other}
use Rattle.txn_core.proofs.order.feeds_in_order.Goals as goal

pub returns-in-ApplyIndex : goal.returns-in-ApplyIndex
returns-in-ApplyIndex g c = λ pass. subst (λ m. IsTrue c.was_peeked.result ↔ FeedsInOrder (g.R.Rules.protocol c.args.partitions) (reverse c.args.past.now) pass m) (sym c.in-ApplyIndex.is) c.was_peeked.ensures

pub returns-in-Ack : goal.returns-in-Ack
returns-in-Ack g c = λ pass. subst (λ m. IsTrue c.was_fed.result ↔ FeedsInOrder (g.R.Rules.protocol c.args.partitions) (reverse c.args.past.now) pass m) (sym c.in-Ack.is) (tested c.was_fed.result _ (c.was_fed.ensures c.args.partitions))

pub returns-in_default : goal.returns-in_default
returns-in_default g c = λ pass. feeds_other (g.R.Rules.protocol c.args.partitions) (reverse c.args.past.now) pass c.args.message.now c.in_default.not-ApplyIndex c.in_default.not-Ack
