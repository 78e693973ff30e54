use Rattle.std.proofs.Common.{[]}
use Rattle.txn_core.proofs.Duties.{alike_none, alike_some}
use Rattle.txn_core.proofs.order.has_its_reach.Goals as goal

pub returns-in-None : goal.returns-in-None
returns-in-None g c = λ n. alike_none (g.R.Rules.protocol n) [] c.args.cell c.in-None.is c.args.message.now c.is_command.result c.is_command.ensures

pub returns-in-Some : goal.returns-in-Some
returns-in-Some g c = λ n. alike_some (g.R.Rules.protocol n) [] c.args.cell c.in-Some._cell c.in-Some.is c.args.message.now c.is_command-in-Some.result c.is_command-in-Some.ensures
