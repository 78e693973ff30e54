use Rattle.std.proofs.Common.{length}
use Rattle.update_eval.proofs.path.+place_in.Given as goal

abbrev pub decreases-place_in : goal.decreases-place_in
decreases-place_in l = length l.steps.now
