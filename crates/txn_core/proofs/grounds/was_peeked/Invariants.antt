use Rattle.std.proofs.Common.{reverse, take}
use Rattle.txn_core.specs.Legal.{WasPeeked}
use Rattle.txn_core.proofs.grounds.was_peeked.Given as goal

abbrev pub invariant-loop-entry : goal.invariant-loop-entry
invariant-loop-entry g l = WasPeeked (g.R.Rules.protocol l.partitions) (reverse (take l.entry-index l.past)) l.source l.sequence l.index l.row_key l.after → ⊥
