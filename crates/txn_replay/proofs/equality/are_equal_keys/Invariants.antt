use Rattle.std.proofs.Common.{◌≡◌, length}
use Rattle.std.specs.Prelude.{◌↔◌}
use Rattle.txn_replay.proofs.equality.are_equal_keys.Given as goal

abbrev pub invariant-loop-first : goal.invariant-loop-first
invariant-loop-first g l = (l.one ≡ l.other) ↔ (l.left ≡ l.right)

abbrev pub decreases-loop-first : goal.decreases-loop-first
decreases-loop-first g l = length l.one
