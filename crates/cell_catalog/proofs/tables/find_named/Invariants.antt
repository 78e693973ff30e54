use Rattle.std.proofs.Common.{◌≡◌, drop}
use Rattle.cell_model.specs.Catalogs.{named}
use Rattle.cell_catalog.proofs.tables.find_named.Given as goal

abbrev pub invariant-loop-table : goal.invariant-loop-table
invariant-loop-table l = named (drop l.table-index l.tables) l.name ≡ named l.tables l.name
