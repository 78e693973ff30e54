use Rattle.std.proofs.Common.{◌≡◌, ◌++◌, take, map}
use Rattle.std.specs.Option.{option_copied}
use Rattle.row_keys.specs.Rows.{item_at}
use Rattle.table_batches.proofs.asked.look_up.Given as goal

abbrev pub invariant-loop-key : goal.invariant-loop-key
invariant-loop-key l =
    map option_copied l.items.items ≡ map option_copied l.fn.items.items ++ map (item_at l.rows.rows) (take l.key-index l.keys)
