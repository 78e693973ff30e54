use Rattle.std.proofs.Common.{◌≡◌, ℕ, false, reverse, take}
use Rattle.std.specs.List.{list_any}
use Rattle.txn_replay.proofs.pendings.is_again.Given as goal

abbrev pub invariant-loop-held : goal.invariant-loop-held
invariant-loop-held g l = (n : ℕ) → list_any (λ p. (g.R.Rules.protocol n).core.same l.key p.key) (reverse (take l.held-index l.others)) ≡ false
