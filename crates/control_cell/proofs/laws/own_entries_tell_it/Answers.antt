use Rattle.control_cell.proofs.Others.{own_entries_tell_it}
use Rattle.control_cell.proofs.laws.own_entries_tell_it.Goals as goal

pub returns : goal.returns
returns g c = λ n. own_entries_tell_it (g.R.Rules.protocol n) _ (g.met.R.Rules.lawful n)
