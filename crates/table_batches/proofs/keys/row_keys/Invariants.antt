use Rattle.std.proofs.Common.{◌≡◌, drop, map}
use Rattle.item_keys.specs.ItemKey.{key_alone}
use Rattle.table_batches.specs.Keys.{behind, gathered}
use Rattle.table_batches.proofs.keys.row_keys.Given as goal

-- the keys so far and those that are left are all
abbrev pub invariant-loop-key : goal.invariant-loop-key
invariant-loop-key l =
    behind l.rows (gathered (map (λ key. key_alone l.schema l.schema.keys key) (drop l.key-index l.keys)))
    ≡ gathered (map (λ key. key_alone l.schema l.schema.keys key) l.keys)
