use Rattle.control_cell.proofs.Others.{others_leave_it}
use Rattle.control_cell.proofs.laws.others_leave_it.Goals as goal

pub returns : goal.returns
returns g c = λ n. others_leave_it (g.R.Rules.protocol n) _
