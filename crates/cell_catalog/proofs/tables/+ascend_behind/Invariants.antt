use Rattle.std.proofs.Common.{length}
use Rattle.cell_catalog.proofs.tables.+ascend_behind.Given as goal

abbrev pub decreases-ascend_behind : goal.decreases-ascend_behind
decreases-ascend_behind l = length l.numbers.now
