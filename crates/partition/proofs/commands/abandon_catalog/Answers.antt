use Rattle.partition.proofs.Planned.{but_plan_stays}
use Rattle.partition.proofs.commands.abandon_catalog.Goals as goal

pub returns-clause-in_step : goal.returns-clause-in_step
returns-clause-in_step g c = λ n.
    but_plan_stays (g.R.Rules.protocol n) (g.met.R.Rules.lawful n) (g.met.R.CellRules.ordered n) g.R.CellRules.locals
    (g.met.R.CellRules.entries_lawful n) g.met.R.LocalEntry.Ord.total c.args.cell.now c.give_up_plan.new.self c.give_up_plan.ensures.kept
