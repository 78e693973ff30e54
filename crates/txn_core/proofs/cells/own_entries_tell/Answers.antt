use Rattle.txn_core.proofs.Locality.{own_entries_tell}
use Rattle.txn_core.proofs.cells.own_entries_tell.Goals as goal

pub returns : goal.returns
returns g c = λ n. own_entries_tell (g.R.Rules.protocol n) (g.met.R.Rules.lawful n)
