use Rattle.txn_core.proofs.Breaking.{rules_follow}
use Rattle.txn_core.proofs.laws.rules_one_by_one.Goals as goal

pub returns : goal.returns
returns g c n es e = rules_follow (g.R.Rules.protocol n) es e
