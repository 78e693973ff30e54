use Rattle.std.proofs.Common.{rules, tests, ◌∙◌, filter, ap}
use Rattle.std.proofs.lemmas.Fn.{filter_same}
use Rattle.table_model.specs.Catalog.{is_used}
use Rattle.schema_update.proofs.definitions.used_definitions.Goals as goal

pub returns : goal.returns
returns c =
    c.from.ensures
    ∙ filter_same _ (λ definition. is_used c.args.schema.now definition.name) _ (λ x b q k. search (rules, tests)) _ _ c.retain.ensures.filtered
    ∙ ap (filter (λ definition. is_used c.args.schema.now definition.name)) c.from-used.ensures
