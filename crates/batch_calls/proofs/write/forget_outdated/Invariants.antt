use Rattle.std.proofs.Common.{List}
use Rattle.table_history.specs.Entries.{TableEvent}
use Rattle.cell_asks.specs.Told.{AreTold}
use Rattle.batch_calls.proofs.write.forget_outdated.Given as goal

abbrev pub invariant-loop-wrote : goal.invariant-loop-wrote
invariant-loop-wrote l = (es : List TableEvent) → AreTold es l.fn.looks → AreTold es l.looks
