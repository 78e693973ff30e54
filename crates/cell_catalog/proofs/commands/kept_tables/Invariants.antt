use Rattle.std.proofs.Common.{◌≡◌, ℕ, ◌+◌, drop, ◌++◌}
use Rattle.std.specs.List.{filter_map}
use Rattle.cell_model.specs.Commands.{kept}
use Rattle.cell_catalog.proofs.commands.kept_tables.Given as goal

abbrev pub invariant-loop-table : goal.invariant-loop-table
invariant-loop-table l =
    (drawn : ℕ) → l.next ≡ drawn + 1
    → l.left ++ filter_map (kept l.command l.on drawn) (drop l.table-index l.tables) ≡ filter_map (kept l.command l.on drawn) l.tables
