use Rattle.std.proofs.Common.{◌≡◌, ℕ, true, reverse, take, Some}
use Rattle.std.specs.Prelude.{Any}
use Rattle.txn_core.specs.History.{reason_of}
use Rattle.txn_core.specs.Legal.{prepares}
use Rattle.txn_core.proofs.grounds.was_told.Given as goal

abbrev pub invariant-loop-entry : goal.invariant-loop-entry
invariant-loop-entry g l = (n : ℕ) → Any (λ e. (prepares (g.R.Rules.protocol n) l.number l.key e.message ≡ true) × (reason_of e.answer ≡ Some l.reason)) (reverse (take l.entry-index l.past)) → ⊥
