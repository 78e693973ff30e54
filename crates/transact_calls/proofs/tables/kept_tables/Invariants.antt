use Rattle.std.proofs.Common.{List}
use Rattle.table_history.specs.Entries.{TableEvent}
use Rattle.cell_asks.specs.Told.{AreTold}
use Rattle.transact_calls.specs.Known.{AreKnown}
use Rattle.transact_calls.proofs.tables.kept_tables.Given as goal

abbrev pub invariant-loop-part : goal.invariant-loop-part
invariant-loop-part g l = (es : List TableEvent) → AreTold es l.looks → AreKnown es l.tables.entries
