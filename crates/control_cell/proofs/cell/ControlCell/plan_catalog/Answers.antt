use Rattle.control_cell.proofs.Planned.{plan_answers}
use Rattle.control_cell.proofs.cell.ControlCell.plan_catalog.Goals as goal

pub returns-clause-answers : goal.returns-clause-answers
returns-clause-answers g c =
    λ n. plan_answers (g.R.Rules.protocol n) c.args.self.now c.args.command.now c.args.moment c.in_ok-plan.plan (c.in_ok-plan.ensures n)
