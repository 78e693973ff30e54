use Rattle.std.proofs.Common.{◌≡◌, map, drop}
use Rattle.table_model.specs.Database.{first}
use Rattle.table_model.specs.Batches.{missing}
use Rattle.transact_reads.specs.Found.{database_of}
use Rattle.transact_reads.proofs.found.missing_table.Given as goal

abbrev pub invariant-loop-read : goal.invariant-loop-read
invariant-loop-read l =
    first (map (λ read. missing (database_of l.tables.entries) read.table) (drop l.read-index l.reads))
    ≡ first (map (λ read. missing (database_of l.tables.entries) read.table) l.reads)
