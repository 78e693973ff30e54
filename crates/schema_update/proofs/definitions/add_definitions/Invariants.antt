use Rattle.std.proofs.Common.{◌≡◌}
use Rattle.std.specs.Vec.Iter.{into_iter_items}
use Rattle.table_schema.specs.declared.schema.Schema.{Schema}
use Rattle.table_model.specs.Catalog.{with_definitions}
use Rattle.schema_update.proofs.definitions.add_definitions.Given as goal

abbrev pub invariant-loop-definition : goal.invariant-loop-definition
invariant-loop-definition l =
    let joined : Schema = record l.schema { definitions = with_definitions l.schema.definitions (into_iter_items l.definition-iterator) } in
    joined ≡ record l.fn.schema { definitions = with_definitions l.fn.schema.definitions l.fn.added }
