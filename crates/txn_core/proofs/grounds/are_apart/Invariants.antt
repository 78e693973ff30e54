use Rattle.std.proofs.Common.{◌≡◌, ℕ, length}
use Rattle.txn_core.specs.Replay.{are_apart}
use Rattle.txn_core.proofs.grounds.are_apart.Given as goal

abbrev pub invariant-loop-first : goal.invariant-loop-first
invariant-loop-first g l = (n : ℕ) → are_apart (g.R.Rules.protocol n).core l.rest ≡ are_apart (g.R.Rules.protocol n).core l.fn.actions

abbrev pub decreases-loop-first : goal.decreases-loop-first
decreases-loop-first g l = length l.rest
