use Rattle.std.proofs.Common.{◌≡◌, ◌++◌, map, take}
use Rattle.table_rows.specs.Slots.{rows_of}
use Rattle.table_rows.specs.Places.{index_over}
use Rattle.table_rows.proofs.indexed.add_locals.Given as goal

abbrev pub invariant-loop-index : goal.invariant-loop-index
invariant-loop-index l =
    l.indexes ≡ l.fn.indexes ++ map (λ index. index_over l.schema (rows_of l.slots) index.keys) (take l.index-index l.locals)
