use Rattle.txn_core.proofs.Fated.{own_number_is_kept}
use Rattle.txn_core.proofs.driver.own_number_is_kept.Goals as goal

pub returns : goal.returns
returns g c = λ n. own_number_is_kept (g.R.Rules.protocol n) (g.met.R.Rules.lawful n)
