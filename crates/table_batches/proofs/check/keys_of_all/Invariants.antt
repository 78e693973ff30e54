use Rattle.std.proofs.Common.{drop, map}
use Rattle.table_batches.specs.Answers.{tables_alone}
use Rattle.table_batches.proofs.Schemas.{keyed, gathered_of}
use Rattle.table_batches.proofs.Refusals.{Asking}
use Rattle.table_batches.proofs.check.keys_of_all.Given as goal

abbrev pub invariant-loop-part : goal.invariant-loop-part
invariant-loop-part g l =
    let keys = g.T.OnTable.keys_of (tables_alone l.tables.entries) in
    Asking keys (gathered_of keys) l.parts (drop l.part-index l.parts) (map keyed l.all) l.twice
