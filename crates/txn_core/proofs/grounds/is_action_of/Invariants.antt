use Rattle.std.proofs.Common.{◌≡◌, ℕ, drop}
use Rattle.txn_core.specs.State.{on_item}
use Rattle.txn_core.proofs.grounds.is_action_of.Given as goal

abbrev pub invariant-loop-each : goal.invariant-loop-each
invariant-loop-each g l = (n : ℕ) → on_item (g.R.Rules.protocol n).core l.actions ((g.R.Rules.protocol n).core.key_of l.action) ≡ on_item (g.R.Rules.protocol n).core (drop l.each-index l.actions) ((g.R.Rules.protocol n).core.key_of l.action)
