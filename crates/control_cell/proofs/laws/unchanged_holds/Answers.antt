use Rattle.control_cell.proofs.Others.{unchanged_holds}
use Rattle.control_cell.proofs.laws.unchanged_holds.Goals as goal

pub returns : goal.returns
returns g c = λ n. unchanged_holds (g.R.Rules.protocol n) _
