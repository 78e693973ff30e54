use Rattle.txn_core.proofs.Knowing.{prepared, reasoned, decided, found, applied, released, finished}
use Rattle.txn_core.proofs.driver.steps_are_known.Goals as goal

pub returns : goal.returns
returns g c =
    λ n.
    let S = g.R.Rules.protocol n in
    let law = g.met.R.Rules.lawful n in
    record {
      prepared = prepared S law;
      reasoned = reasoned S law;
      decided = decided S law;
      found = found S law;
      applied = applied S law;
      released = released S law;
      finished = finished S law;
    }
