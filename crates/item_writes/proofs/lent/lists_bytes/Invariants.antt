use Rattle.std.proofs.Common.{◌≡◌, ◌≤◌, ◌+◌, min, drop}
use Rattle.attr_value.specs.Sizes.{list_size}
use Rattle.item_writes.specs.Joined.{joined}
use Rattle.item_writes.proofs.lent.lists_bytes.Given as goal

abbrev pub invariant-loop-list : goal.invariant-loop-list
invariant-loop-list l =
    (l.total ≤ l.limit) × (min (l.total + list_size (joined (drop l.list-index l.lists))) l.limit ≡ min (list_size (joined l.lists)) l.limit)
