use Rattle.std.specs.Vec.Iter.{into_iter_items}
use Rattle.std.proofs.lemmas.List.Elements.{All-rest}
use Rattle.table_schema.specs.Key.{IsKeySchema}
use Rattle.table_schema.specs.Index.{of_global}
use Rattle.table_schema.proofs.Chains.{mapped_more}
use Rattle.table_schema.proofs.conversion.global_indexes.Goals as goal

pub loop-index-preserved : goal.loop-index-preserved
loop-index-preserved c = record {
  made =
      mapped_more of_global c.loop-index.globals c.push.new.self
      (record { name = c.in-Some.index.name; keys = c.key_names.result; projection = c.in-Some.index.projection }) c.in-Some.index
      (into_iter_items c.loop-index.index-iterator) (into_iter_items c.next.new.self) c.args.stated c.in-Some.ensures.steps.0
      (λ i. record { name = c.in-Some.index.name; keys = c.key_names.ensures i; projection = c.in-Some.index.projection })
      c.in_ok-push.ensures.ok c.loop-index.invariant.made;
  keys =
      All-rest (λ i. IsKeySchema i.keys) c.in-Some.index (into_iter_items c.next.new.self) (into_iter_items c.loop-index.index-iterator)
      c.in-Some.ensures.steps.0 c.loop-index.invariant.keys;
}
