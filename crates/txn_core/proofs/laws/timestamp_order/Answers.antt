use Rattle.txn_core.specs.History.{effects}
use Rattle.txn_core.proofs.SerialLaws.{stamp_order}
use Rattle.txn_core.proofs.LegalRuns.{legal_run}
use Rattle.txn_core.proofs.laws.timestamp_order.Goals as goal

pub returns : goal.returns
returns g c =
    let S = g.R.Rules.protocol in
    let law = g.met.R.Rules.lawful in
    λ n es legal. stamp_order (S n).core (law n).core (effects es) (legal_run (S n) (law n) es legal)
