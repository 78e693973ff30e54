use Rattle.update_eval.specs.Views.{AreFound}
use Rattle.update_eval.proofs.named.found_often.Given as goal

abbrev pub invariant-loop-path : goal.invariant-loop-path
invariant-loop-path l = AreFound l.old l.named
