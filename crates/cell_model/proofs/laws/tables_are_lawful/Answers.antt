use Rattle.cell_model.proofs.Lawful.{service_lawful}
use Rattle.cell_model.proofs.laws.tables_are_lawful.Goals as goal

pub returns : goal.returns
returns c = service_lawful
