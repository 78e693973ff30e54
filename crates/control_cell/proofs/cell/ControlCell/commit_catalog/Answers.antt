use Rattle.std.proofs.Common.{refl}
use Rattle.control_cell.proofs.Planned.{plan_taken}
use Rattle.control_cell.proofs.cell.ControlCell.commit_catalog.Goals as goal

pub returns : goal.returns
returns g c = λ n moment. plan_taken (g.R.Rules.protocol n) c.args.self.now _ moment refl
