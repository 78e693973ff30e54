use Rattle.txn_core.proofs.IndexLaws.{table_pages_are_shown, index_pages_are_shown}
use Rattle.txn_core.proofs.indexes.pages_are_shown.Goals as goal

pub returns : goal.returns
returns g c =
    let S = g.R.Rules.protocol in
    let law = g.met.R.Rules.lawful in
    record { table = λ n. table_pages_are_shown (S n) (law n); index = λ n. index_pages_are_shown (S n) (law n) }
