use Rattle.std.proofs.Common.{◌≡◌, ℕ, ◌<◌, true, reverse, get_or}
use Rattle.std.specs.List.{list_any}
use Rattle.txn_core.specs.Replay.{tells_on}
use Rattle.txn_core.proofs.grounds.was_on_all.Given as goal

abbrev pub invariant-loop-action : goal.invariant-loop-action
invariant-loop-action g l = (n k : ℕ) → k < l.action-index → (d : g.row.R-Action.Denot) → list_any (λ e. tells_on (g.R.Rules.protocol n) l.fact l.number ((g.R.Rules.protocol n).core.key_of (get_or l.actions k d)) e.message e.answer) (reverse l.past) ≡ true
