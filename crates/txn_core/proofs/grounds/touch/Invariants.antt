use Rattle.std.proofs.Common.{◌≡◌, ℕ, false, reverse, take}
use Rattle.std.specs.List.{list_any}
use Rattle.txn_core.proofs.grounds.touch.Given as goal

abbrev pub invariant-loop-action : goal.invariant-loop-action
invariant-loop-action g l = (n : ℕ) → list_any (λ x. (g.R.Rules.protocol n).core.same l.key ((g.R.Rules.protocol n).core.key_of x)) (reverse (take l.action-index l.actions)) ≡ false
