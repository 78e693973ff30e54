use Rattle.expr_parse.proofs.Ordered.{ClearBefore}
use Rattle.expr_parse.proofs.overlap.neighbours_overlap.Given as goal

abbrev pub invariant-loop-place : goal.invariant-loop-place
invariant-loop-place l = ClearBefore l.paths l.place
