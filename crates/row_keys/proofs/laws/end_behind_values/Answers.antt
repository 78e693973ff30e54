use Rattle.row_keys.proofs.Ends.{end_behind_values}
use Rattle.row_keys.proofs.laws.end_behind_values.Goals as goal

pub returns : goal.returns
returns c = end_behind_values
