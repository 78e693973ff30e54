use Rattle.std.specs.Prelude.{◌≡◌, ◌++◌, map}
use Rattle.std.specs.Vec.Iter.{into_iter_items}
use Rattle.numbered_tables.specs.Tables.{table_in}
use Rattle.numbered_tables.specs.Swept.{removal, removals_of}
use Rattle.numbered_tables.proofs.expired.add_removals.Given as goal

abbrev pub invariant-loop-key : goal.invariant-loop-key
invariant-loop-key l =
    l.changes ++ map (removal l.name) (into_iter_items l.key-iterator) ≡ l.fn.changes ++ removals_of l.second (l.name, table_in l.table)
