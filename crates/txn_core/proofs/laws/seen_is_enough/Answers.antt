use Rattle.txn_core.proofs.Prefix.{still_allowed}
use Rattle.txn_core.proofs.laws.seen_is_enough.Goals as goal

pub returns : goal.returns
returns g c =
    let S = g.R.Rules.protocol in
    let law = g.met.R.Rules.lawful in
    λ n newer es legal e may is cell timely.
    (legal, record { answer = is; allowed = still_allowed (S n) (law n) newer es legal e.pass e.message may; cell = cell; timely = timely })
