use Rattle.std.specs.Prelude.{◌≡◌, ◌++◌}
use Rattle.table_rows.proofs.Quiets.{expired_along}
use Rattle.table_rows.proofs.indexed.IndexedRows.expired_keys.Given as goal

abbrev pub invariant-loop-key : goal.invariant-loop-key
invariant-loop-key l =
    l.keys ++ expired_along l.self-inside.schema l.second l.key-iterator ≡ expired_along l.self-inside.schema l.second l.self-inside.slots
