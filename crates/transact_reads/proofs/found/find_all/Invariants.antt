use Rattle.std.proofs.Common.{drop}
use Rattle.transact_reads.specs.Found.{database_of}
use Rattle.transact_reads.proofs.Reading.{IsSoFar}
use Rattle.transact_reads.proofs.found.find_all.Given as goal

abbrev pub invariant-loop-read : goal.invariant-loop-read
invariant-loop-read l = IsSoFar (database_of l.tables.entries) l.reads (drop l.read-index l.reads) l.all
