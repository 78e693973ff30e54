use Rattle.std.proofs.Common.{length}
use Rattle.table_load.proofs.figures.+figures_of_rows.Given as goal

abbrev pub decreases-figures_of_rows : goal.decreases-figures_of_rows
decreases-figures_of_rows l = length l.rows.now
