use Rattle.std.proofs.Common.{◌≡◌, ◌++◌, map}
use Rattle.std.specs.Prelude.{All}
use Rattle.std.specs.Vec.Iter.{into_iter_items}
use Rattle.table_schema.specs.Key.{IsKeySchema}
use Rattle.table_schema.specs.Index.{of_local}
use Rattle.table_schema.proofs.conversion.local_indexes.Given as goal

abbrev pub invariant-loop-index : goal.invariant-loop-index
invariant-loop-index l = record {
  made : map of_local l.locals ++ into_iter_items l.index-iterator ≡ l.fn.stated;
  keys : All (λ i. IsKeySchema i.keys) (into_iter_items l.index-iterator);
}
