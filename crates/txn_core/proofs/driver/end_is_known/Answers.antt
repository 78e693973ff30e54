use Rattle.txn_core.proofs.Fated.{committed_end, cancelled_end}
use Rattle.txn_core.proofs.driver.end_is_known.Goals as goal

pub returns : goal.returns
returns g c =
    λ n.
    let S = g.R.Rules.protocol n in
    let law = g.met.R.Rules.lawful n in
    record { committed = committed_end S law; cancelled = cancelled_end S law }
