use Rattle.txn_core.proofs.Knowing.{begun_stays, told_stays, reasons_stay}
use Rattle.txn_core.proofs.driver.knowledge_stays.Goals as goal

pub returns : goal.returns
returns g c =
    λ n.
    let S = g.R.Rules.protocol n in
    let law = g.met.R.Rules.lawful n in
    record { begun = begun_stays S law; told = told_stays S law; reasons = reasons_stay S law }
