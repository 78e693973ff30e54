use Rattle.row_keys.proofs.Ends.{end_behind_prefixes}
use Rattle.row_keys.proofs.laws.end_behind_prefixes.Goals as goal

pub returns : goal.returns
returns c = end_behind_prefixes
