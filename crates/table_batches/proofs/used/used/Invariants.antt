use Rattle.std.proofs.Common.{◌≡◌, ◌++◌, drop}
use Rattle.table_model.specs.Batches.{used_by_writes}
use Rattle.table_batches.specs.Answers.{tables_alone}
use Rattle.table_batches.proofs.used.used.Given as goal

abbrev pub invariant-loop-asked : goal.invariant-loop-asked
invariant-loop-asked l =
    l.all ++ used_by_writes (tables_alone l.tables.entries) (drop l.asked-index l.requests)
    ≡ used_by_writes (tables_alone l.tables.entries) l.requests
