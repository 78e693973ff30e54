use Rattle.std.proofs.Common.{length}
use Rattle.expr_words.proofs.equality.+are_equal_lists.Given as goal

abbrev pub decreases-are_equal_lists : goal.decreases-are_equal_lists
decreases-are_equal_lists l = length l.some.now
