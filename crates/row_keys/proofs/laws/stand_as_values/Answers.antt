use Rattle.row_keys.proofs.Ends.{stand_as_values}
use Rattle.row_keys.proofs.laws.stand_as_values.Goals as goal

pub returns : goal.returns
returns c = stand_as_values
