-- The order of whole keys.
use Rattle.std.specs.Option.{option_cmp}
use Rattle.std.specs.Ordering.{nat_cmp, ordering_then}
use Rattle.std.specs.declared.cmp.Ordering.{Ordering}
use Rattle.item_keys.specs.declared.key.Key.{Key}
use Rattle.item_keys.specs.declared.key.PlacedKey.{PlacedKey}
use Rattle.item_keys.specs.Order.{value_order}

-- by the partition key, and then by the sort key, a key without one before those that have one
abbrev pub key_order : Key → Key → Ordering
key_order a b = ordering_then (value_order a.partition b.partition) (option_cmp value_order a.sort b.sort)

-- by place, and then by key: the order in which a Scan gives items
abbrev pub scan_order : PlacedKey → PlacedKey → Ordering
scan_order a b = ordering_then (nat_cmp a.place b.place) (key_order a.key b.key)
