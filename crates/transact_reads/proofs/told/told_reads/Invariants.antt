use Rattle.std.proofs.Common.{◌≡◌, map}
use Rattle.transact_reads.proofs.Telling.{beside}
use Rattle.transact_reads.proofs.told.told_reads.Given as goal

abbrev pub invariant-loop-read : goal.invariant-loop-read
invariant-loop-read l = l.all.items ≡ map beside l.yielded
