use Rattle.std.proofs.Common.{rules, tests, ◌≡◌, ◌∙◌, Some, not, filter, ap}
use Rattle.std.specs.Prelude.{bytes_eq}
use Rattle.std.proofs.lemmas.Fn.{filter_same}
use Rattle.table_request.specs.declared.tables.IndexChange.TheVariants.{Remove}
use Rattle.table_model.specs.Catalog.{changed_indexes}
use Rattle.schema_update.proofs.index.changed_indexes.Goals as goal

pub returns-in-Some-Remove : goal.returns-in-Some-Remove
returns-in-Some-Remove c =
    let name = c.in-Some-Remove.name in
    let stated : Some (Remove name) ≡ c.args.change = search rules in
    c.from.ensures
    ∙ filter_same _ (λ index. not (bytes_eq index.name name)) _ (λ x b q k. search (rules, tests)) _ _ c.retain.ensures.filtered
    ∙ ap (filter (λ index. not (bytes_eq index.name name))) c.from-kept.ensures
    ∙ ap (λ change. changed_indexes change c.args.indexes) stated
