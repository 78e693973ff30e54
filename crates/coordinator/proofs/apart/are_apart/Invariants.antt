use Rattle.std.proofs.Common.{◌≡◌, ℕ, drop}
use Rattle.txn_core.specs.Replay.{are_apart}
use Rattle.coordinator.proofs.Differing.{all_new, is_seen}
use Rattle.coordinator.proofs.apart.are_apart.Given as goal

-- all differ where those that are left differ from each other and from those that were seen
abbrev pub invariant-loop-action : goal.invariant-loop-action
invariant-loop-action g l =
    (n : ℕ) → all_new (g.R.Rules.protocol n).core (is_seen g.R.Key.Ord.cmp l.seen.keys) (drop l.action-index l.actions)
    ≡ are_apart (g.R.Rules.protocol n).core l.actions
