use Rattle.cell_model.proofs.Ties.{rows_are_the_databases}
use Rattle.cell_model.proofs.laws.index_rows_are_the_databases.Goals as goal

pub returns : goal.returns
returns c = rows_are_the_databases
