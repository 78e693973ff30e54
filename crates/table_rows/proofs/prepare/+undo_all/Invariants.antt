use Rattle.std.proofs.Common.{length}
use Rattle.table_rows.proofs.prepare.+undo_all.Given as goal

abbrev pub decreases-undo_all : goal.decreases-undo_all
decreases-undo_all l = length l.indexes.now
