use Rattle.std.proofs.Common.{length}
use Rattle.case_rules.proofs.equality.+are_equal_rows.Given as goal

abbrev pub decreases-are_equal_rows : goal.decreases-are_equal_rows
decreases-are_equal_rows l = length l.left.now
