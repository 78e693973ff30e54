use Rattle.std.proofs.Common.{reverse, take}
use Rattle.txn_core.specs.Breaks.{AllKeep, of_sending}
use Rattle.txn_core.proofs.replay.sending_check.Given as goal

abbrev pub invariant-loop-place : goal.invariant-loop-place
invariant-loop-place g l = AllKeep (g.R.Rules.protocol l.partitions) of_sending (reverse (take l.place l.entries))
