use Rattle.txn_core.proofs.Causes.{read_at_one_point}
use Rattle.txn_core.proofs.laws.one_point_reads.Goals as goal

pub returns : goal.returns
returns g c =
    let S = g.R.Rules.protocol in
    let law = g.met.R.Rules.lawful in
    λ n newer middle es legal key first second version holds one two.
    read_at_one_point (S n) (law n) newer middle es legal 0 0 key first second version holds one two
