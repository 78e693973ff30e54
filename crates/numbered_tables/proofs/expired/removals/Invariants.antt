use Rattle.std.specs.Prelude.{◌≡◌, ◌++◌}
use Rattle.numbered_tables.specs.Tables.{tables_in}
use Rattle.numbered_tables.specs.Swept.{removals, AreInOrder}
use Rattle.numbered_tables.proofs.expired.removals.Given as goal

abbrev pub invariant-loop-name : goal.invariant-loop-name
invariant-loop-name l = record {
  changes : l.changes ++ removals l.second (tables_in l.name-iterator) ≡ removals l.second (tables_in l.tables.entries);
  rows : AreInOrder l.name-iterator → AreInOrder l.tables.entries;
}
