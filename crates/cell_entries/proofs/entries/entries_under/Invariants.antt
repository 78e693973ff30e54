use Rattle.std.proofs.Common.{◌≡◌, ◌++◌, drop}
use Rattle.cell_entries.specs.LocalEntries.{entries_from}
use Rattle.cell_entries.proofs.entries.entries_under.Given as goal

abbrev pub invariant-loop-place : goal.invariant-loop-place
invariant-loop-place l =
    l.entries.items ++ entries_from l.schema (drop l.place l.index-items) l.place l.key l.item ≡ entries_from l.schema l.index-items 0 l.key l.item
