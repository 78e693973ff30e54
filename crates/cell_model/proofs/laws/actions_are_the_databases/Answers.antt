use Rattle.cell_model.proofs.Ties.{act_as_the_database}
use Rattle.cell_model.proofs.laws.actions_are_the_databases.Goals as goal

pub returns : goal.returns
returns c = act_as_the_database
