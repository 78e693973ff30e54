use Rattle.std.proofs.Common.{◌≡◌, drop, map}
use Rattle.table_model.specs.Batches.{write_key}
use Rattle.numbered_tables.specs.Tables.{table_in}
use Rattle.table_batches.specs.Keys.{behind, gathered}
use Rattle.table_batches.proofs.keys.row_keys_of.Given as goal

-- the keys so far and those that are left are all
abbrev pub invariant-loop-write : goal.invariant-loop-write
invariant-loop-write l =
    behind l.rows (gathered (map (write_key (table_in l.table)) (drop l.write-index l.writes)))
    ≡ gathered (map (write_key (table_in l.table)) l.writes)
