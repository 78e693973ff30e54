use Rattle.std.proofs.Common.{◌≡◌, drop, ◌++◌, map, filter}
use Rattle.table_model.specs.Catalog.{is_after}
use Rattle.cell_catalog.proofs.told.names_after.Given as goal

abbrev pub invariant-loop-table : goal.invariant-loop-table
invariant-loop-table l =
    l.names ++ filter (is_after l.after) (map (λ table. table.schema.name) (drop l.table-index l.tables))
    ≡ filter (is_after l.after) (map (λ table. table.schema.name) l.tables)
