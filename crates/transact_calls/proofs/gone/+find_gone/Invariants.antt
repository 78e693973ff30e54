use Rattle.std.proofs.Common.{length}
use Rattle.transact_calls.proofs.gone.+find_gone.Given as goal

abbrev pub decreases-find_gone : goal.decreases-find_gone
decreases-find_gone g l = length l.actions.now
