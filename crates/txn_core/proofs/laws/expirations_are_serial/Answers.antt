use Rattle.txn_core.proofs.Writes.{expirations_are_serial}
use Rattle.txn_core.proofs.laws.expirations_are_serial.Goals as goal

pub returns : goal.returns
returns g c = λ n. expirations_are_serial (g.R.Rules.protocol n) (g.met.R.Rules.lawful n)
