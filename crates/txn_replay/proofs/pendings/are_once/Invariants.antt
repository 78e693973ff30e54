use Rattle.std.proofs.Common.{◌≡◌, ℕ, length}
use Rattle.txn_replay.specs.Held.{are_once}
use Rattle.txn_replay.proofs.pendings.are_once.Given as goal

abbrev pub invariant-loop-first : goal.invariant-loop-first
invariant-loop-first g l = (n : ℕ) → are_once (g.R.Rules.protocol n).core l.rest ≡ are_once (g.R.Rules.protocol n).core l.fn.pendings

abbrev pub decreases-loop-first : goal.decreases-loop-first
decreases-loop-first g l = length l.rest
