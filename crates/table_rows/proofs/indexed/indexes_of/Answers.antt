use Rattle.std.proofs.Common.{rules, ◌≡◌, ◌++◌, map, ap, ◌∙◌}
use Rattle.table_rows.specs.Slots.{rows_of}
use Rattle.table_rows.specs.Places.{index_over}
use Rattle.table_rows.proofs.Kept.{made}
use Rattle.table_rows.proofs.indexed.indexes_of.Goals as goal

pub returns : goal.returns
returns c =
    let schema = c.args.schema.now in
    let rows = rows_of c.args.slots.now in
    let first : c.add_locals.new.indexes ≡ map (λ index. index_over schema rows index.keys) schema.locals = search rules in
    let second : c.add_globals.new.indexes ≡ c.add_locals.new.indexes ++ map (λ index. index_over schema rows index.keys) schema.globals = search rules in
    second ∙ ap (λ l. l ++ map (λ index. index_over schema rows index.keys) schema.globals) first
    ∙ made (index_over schema rows) schema.locals schema.globals
