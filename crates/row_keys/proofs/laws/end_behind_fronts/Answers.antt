use Rattle.row_keys.proofs.Ends.{end_behind_fronts}
use Rattle.row_keys.proofs.laws.end_behind_fronts.Goals as goal

pub returns : goal.returns
returns c = end_behind_fronts
