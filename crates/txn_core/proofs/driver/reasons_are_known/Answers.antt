use Rattle.txn_core.proofs.Fated.{reasons_decided, reasons_recalled, reasons_of_stay}
use Rattle.txn_core.proofs.driver.reasons_are_known.Goals as goal

pub returns : goal.returns
returns g c =
    λ n.
    let S = g.R.Rules.protocol n in
    let law = g.met.R.Rules.lawful n in
    record { decided = reasons_decided S law; recalled = reasons_recalled S law; stays = reasons_of_stay S law }
