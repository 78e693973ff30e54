use Rattle.std.specs.Vec.Iter.{into_iter_items}
use Rattle.table_model.specs.Batches.{write_keys}
use Rattle.table_batches.specs.Answers.{tables_alone}
use Rattle.table_batches.specs.Writes.{changes_in}
use Rattle.table_batches.proofs.Refusals.{Asking}
use Rattle.table_batches.proofs.change.changes_of_all.Given as goal

abbrev pub invariant-loop-asked : goal.invariant-loop-asked
invariant-loop-asked l =
    Asking (write_keys (tables_alone l.tables.entries)) (changes_in (tables_alone l.tables.entries)) l.fn.requests
    (into_iter_items l.asked-iterator) l.changes l.twice
