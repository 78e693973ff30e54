use Rattle.std.specs.Vec.Iter.{into_iter_items}
use Rattle.numbered_tables.specs.Tables.{table_in}
use Rattle.table_batches.proofs.Pushing.{Pushing}
use Rattle.table_batches.proofs.change.push_changes.Given as goal

abbrev pub invariant-loop-write : goal.invariant-loop-write
invariant-loop-write l = Pushing (table_in l.table) l.name l.fn.writes l.fn.changes l.changes (into_iter_items l.write-iterator)
