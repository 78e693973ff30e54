use Rattle.table_model.proofs.Examples.{worked}
use Rattle.table_model.proofs.laws.worked.Goals as goal

pub returns : goal.returns
returns c = worked
