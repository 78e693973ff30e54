use Rattle.std.proofs.Common.{arith}
use Rattle.txn_core.proofs.Duties.{fits}
use Rattle.txn_core.proofs.order.may_begin.Goals as goal

pub returns : goal.returns
returns g c = λ n. fits (g.R.Rules.protocol n).core c.args.actions.now c.are_apart.result (c.are_apart.ensures n) (omega arith) (omega arith)
