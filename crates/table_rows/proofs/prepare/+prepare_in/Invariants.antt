use Rattle.std.proofs.Common.{length}
use Rattle.table_rows.proofs.prepare.+prepare_in.Given as goal

abbrev pub decreases-prepare_in : goal.decreases-prepare_in
decreases-prepare_in l = length l.indexes.now
