use Rattle.table_rows.proofs.Quiets.{Along}
use Rattle.table_rows.proofs.indexed.IndexedRows.quiet_from.Given as goal

abbrev pub invariant-loop-key : goal.invariant-loop-key
invariant-loop-key l = Along l.self-inside.schema l.quiet l._key-iterator l.self-inside.slots
