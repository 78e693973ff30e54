use Rattle.std.proofs.Common.{◌≡◌, ℕ, false, reverse, take}
use Rattle.std.specs.List.{list_any}
use Rattle.txn_replay.specs.Held.{is_hold}
use Rattle.txn_replay.proofs.pendings.is_listed.Given as goal

abbrev pub invariant-loop-other : goal.invariant-loop-other
invariant-loop-other g l = (n : ℕ) → list_any (is_hold (g.R.Rules.protocol n).core l.held) (reverse (take l.other-index l.others)) ≡ false
