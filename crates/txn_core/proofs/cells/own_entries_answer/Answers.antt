use Rattle.txn_core.proofs.CellAnswers.{own_entries_answer, cells_answer, same_entries_answer}
use Rattle.txn_core.proofs.cells.own_entries_answer.Goals as goal

pub returns : goal.returns
returns g c =
    let S = g.R.Rules.protocol in
    let law = g.met.R.Rules.lawful in
    record {
      one_cell = λ n. own_entries_answer (S n) (law n);
      all_cells = λ n. cells_answer (S n) (law n);
      same_entries = λ n. same_entries_answer (S n) (law n);
    }
