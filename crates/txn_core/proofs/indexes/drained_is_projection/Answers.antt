use Rattle.txn_core.proofs.IndexLaws.{drained_is_projection, what_waits_completes, empty_is_empty}
use Rattle.txn_core.proofs.Queues.{others_queue_nothing}
use Rattle.txn_core.proofs.indexes.drained_is_projection.Goals as goal

pub returns : goal.returns
returns g c =
    let S = g.R.Rules.protocol in
    let law = g.met.R.Rules.lawful in
    record { drained = λ n. drained_is_projection (S n) (law n); waits = λ n. what_waits_completes (S n) (law n); empty = λ n. empty_is_empty (S n) (law n); others = λ n. others_queue_nothing (S n) }
