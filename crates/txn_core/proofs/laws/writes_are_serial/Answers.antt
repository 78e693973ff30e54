use Rattle.txn_core.proofs.Writes.{catalog_is_serial, writes_are_serial}
use Rattle.txn_core.proofs.laws.writes_are_serial.Goals as goal

pub returns : goal.returns
returns g c =
    let S = g.R.Rules.protocol in
    let law = g.met.R.Rules.lawful in
    record { writes = λ n. writes_are_serial (S n) (law n); catalog = λ n. catalog_is_serial (S n) (law n) }
