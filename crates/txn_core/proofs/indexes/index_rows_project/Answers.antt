use Rattle.txn_core.proofs.IndexLaws.{index_rows_project, gone_has_no_rows}
use Rattle.txn_core.proofs.indexes.index_rows_project.Goals as goal

pub returns : goal.returns
returns g c =
    let S = g.R.Rules.protocol in
    let law = g.met.R.Rules.lawful in
    record { rows = λ n. index_rows_project (S n) (law n); gone = λ n. gone_has_no_rows (S n) (law n) }
