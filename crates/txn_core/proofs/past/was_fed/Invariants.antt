use Rattle.std.proofs.Common.{◌≡◌, ℕ, false, reverse, take}
use Rattle.std.specs.List.{list_any}
use Rattle.txn_core.specs.Legal.{feeds}
use Rattle.txn_core.proofs.past.was_fed.Given as goal

abbrev pub invariant-loop-entry : goal.invariant-loop-entry
invariant-loop-entry g l = (n : ℕ) → list_any (λ e. feeds (g.R.Rules.protocol n) l.source l.sequence e.message e.answer) (reverse (take l.entry-index l.past)) ≡ false
