use Rattle.std.proofs.Common.{List, subst}
use Rattle.std.specs.Prelude.{All}
use Rattle.std.proofs.lemmas.List.Elements.{All-map}
use Rattle.table_schema.specs.Key.{IsKeySchema, IsLocalTo, elements_of}
use Rattle.table_schema.specs.Index.{of_local}
use Rattle.table_schema.specs.declared.stated.StatedIndex.{StatedIndex}
use Rattle.table_schema.proofs.Chains.{from_map}
use Rattle.table_schema.proofs.check.has_valid_index_keys.Goals as goal

pub returns-then-have_keys_apart : goal.returns-then-have_keys_apart
returns-then-have_keys_apart c =
    let IsLocal : StatedIndex → Type 0 = λ i. IsLocalTo (elements_of c.args.schema.now.keys) i.keys in (
      λ local. record {
        keys = subst (λ (xs : List StatedIndex). All (λ i. IsKeySchema i.keys) xs) c.of.ensures (c.have_keys_apart.ensures.0 c.if-have_keys_apart.true);
        local = All-map IsLocal of_local c.args.schema.now.locals (c.has_local_keys.ensures.0 local);
      },
      λ valid. c.has_local_keys.ensures.1 (from_map IsLocal of_local c.args.schema.now.locals valid.local),
    )
