use Rattle.std.proofs.Common.{◌≡◌, take, drop, ◌++◌}
use Rattle.cell_model.specs.declared.catalog.CatalogTable.{CatalogTable}
use Rattle.cell_model.specs.Catalogs.{entered}
use Rattle.cell_catalog.proofs.commands.place_of.Given as goal

abbrev pub invariant-loop-place : goal.invariant-loop-place
invariant-loop-place l =
    (table : CatalogTable) → table.schema.name ≡ l.name
    → entered table l.tables ≡ take l.place l.tables ++ entered table (drop l.place l.tables)
