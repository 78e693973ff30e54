use Rattle.std.proofs.Common.{◌≡◌, ◌++◌, drop}
use Rattle.txn_core.proofs.copies.copy_of_actions.Given as goal

abbrev pub invariant-loop-action : goal.invariant-loop-action
invariant-loop-action g l = l.copies.items ++ drop l.action-index l.actions ≡ l.actions
