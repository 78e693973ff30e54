use Rattle.txn_core.proofs.CellAnswers.{seen_cells_are_enough}
use Rattle.txn_core.proofs.cells.seen_cells_are_enough.Goals as goal

pub returns : goal.returns
returns g c = λ n. seen_cells_are_enough (g.R.Rules.protocol n) (g.met.R.Rules.lawful n)
