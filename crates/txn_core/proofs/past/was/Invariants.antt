use Rattle.std.proofs.Common.{◌≡◌, false, reverse, take}
use Rattle.std.specs.List.{list_any}
use Rattle.txn_core.specs.Replay.{tells}
use Rattle.txn_core.proofs.past.was.Given as goal

abbrev pub invariant-loop-entry : goal.invariant-loop-entry
invariant-loop-entry g l = list_any (λ e. tells l.fact l.number e.message e.answer) (reverse (take l.entry-index l.past)) ≡ false
