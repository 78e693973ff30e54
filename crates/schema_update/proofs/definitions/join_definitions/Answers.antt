use Rattle.std.proofs.Common.{◌≡◌, ◌∙◌, Bool, filter, ap}
use Rattle.std.proofs.lemmas.Result.{on_ok_weaker}
use Rattle.table_schema.specs.declared.definition.Definition.{Definition}
use Rattle.table_schema.specs.declared.schema.Schema.{Schema}
use Rattle.table_model.specs.Catalog.{is_used, with_definitions}
use Rattle.schema_update.proofs.Joined.{joined_used}
use Rattle.schema_update.proofs.definitions.join_definitions.Goals as goal

pub returns : goal.returns
returns c =
    let old = c.args.schema.now in
    let used : Definition → Bool = λ definition. is_used old definition.name in
    let known : c.used_definitions.result ≡ filter used old.definitions = c.used_definitions.ensures ∙ ap (filter used) c.replace-known.ensures.value in
    let joined =
    (λ i. with_definitions (known i) (c.used_definitions-added.ensures i)) ∙ joined_used (is_used old) c.args.added old.definitions in
    on_ok_weaker c.add_definitions.result (λ made. made ∙ (λ i. let s : Schema = record old { definitions = joined i } in s)) c.add_definitions.ensures
