use Rattle.txn_core.proofs.Removals.{removals_leave_none, removals_are_single}
use Rattle.txn_core.proofs.laws.removals_leave_none.Goals as goal

pub returns : goal.returns
returns g c =
    let S = g.R.Rules.protocol in
    let law = g.met.R.Rules.lawful in
    record { gone = λ n. removals_leave_none (S n) (law n); single = λ n. removals_are_single (S n) (law n) }
