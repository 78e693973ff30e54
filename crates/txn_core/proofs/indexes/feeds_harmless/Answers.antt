use Rattle.txn_core.proofs.IndexLaws.{repeats_change_nothing, acks_change_once, others_leave_projections}
use Rattle.txn_core.proofs.indexes.feeds_harmless.Goals as goal

pub returns : goal.returns
returns g c =
    let S = g.R.Rules.protocol in
    let law = g.met.R.Rules.lawful in
    record { repeated = λ n. repeats_change_nothing (S n) (law n); acknowledged = λ n. acks_change_once (S n) (law n); others = λ n. others_leave_projections (S n) (law n) }
