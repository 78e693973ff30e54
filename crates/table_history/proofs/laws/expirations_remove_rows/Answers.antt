use Rattle.table_history.proofs.Expirations.{expirations_remove_rows}
use Rattle.table_history.proofs.laws.expirations_remove_rows.Goals as goal

pub returns : goal.returns
returns c = expirations_remove_rows
