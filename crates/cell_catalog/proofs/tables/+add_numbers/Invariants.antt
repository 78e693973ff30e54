use Rattle.std.proofs.Common.{length}
use Rattle.cell_catalog.proofs.tables.+add_numbers.Given as goal

abbrev pub decreases-add_numbers : goal.decreases-add_numbers
decreases-add_numbers l = length l.numbers.now
