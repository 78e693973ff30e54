use Rattle.std.proofs.Common.{◌≡◌, drop}
use Rattle.cell_model.specs.Catalogs.{numbered}
use Rattle.cell_catalog.proofs.tables.find_numbered.Given as goal

abbrev pub invariant-loop-table : goal.invariant-loop-table
invariant-loop-table l = numbered (drop l.table-index l.tables) l.number ≡ numbered l.tables l.number
