use Rattle.client_tokens.proofs.Loops.{Moves}
use Rattle.client_tokens.proofs.heap.rise.Given as goal

abbrev pub invariant-loop-at : goal.invariant-loop-at
invariant-loop-at g l = Moves l.fn.map l.map l.at

abbrev pub decreases-loop-at : goal.decreases-loop-at
decreases-loop-at g l = l.at
