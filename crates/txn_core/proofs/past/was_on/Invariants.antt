use Rattle.std.proofs.Common.{◌≡◌, ℕ, false, reverse, take}
use Rattle.std.specs.List.{list_any}
use Rattle.txn_core.specs.Replay.{tells_on}
use Rattle.txn_core.proofs.past.was_on.Given as goal

abbrev pub invariant-loop-entry : goal.invariant-loop-entry
invariant-loop-entry g l = (n : ℕ) → list_any (λ e. tells_on (g.R.Rules.protocol n) l.fact l.number l.key e.message e.answer) (reverse (take l.entry-index l.past)) ≡ false
