use Rattle.std.proofs.Common.{length}
use Rattle.txn_core.proofs.grounds.+are_told.Given as goal

abbrev pub decreases-are_told : goal.decreases-are_told
decreases-are_told g l = length l.actions.now
