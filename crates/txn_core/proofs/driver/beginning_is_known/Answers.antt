use Rattle.txn_core.proofs.Knowing.{begun, recalled}
use Rattle.txn_core.proofs.driver.beginning_is_known.Goals as goal

pub returns : goal.returns
returns g c =
    λ n.
    let S = g.R.Rules.protocol n in
    let law = g.met.R.Rules.lawful n in
    record { begun = begun S law; recalled = recalled S law }
