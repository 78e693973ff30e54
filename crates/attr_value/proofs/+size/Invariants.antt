use Rattle.std.proofs.Common.{◌≡◌, ◌+◌, ◌-◌, ◌^◌, ◌<◌, min, drop}
use Rattle.attr_value.specs.Sizes.{list_size, item_size}
use Rattle.attr_value.specs.View.{trees_of, attributes_of}
use Rattle.attr_value.proofs.+size.Given as goal

abbrev pub invariant-size::list_bytes-loop-value : goal.invariant-size::list_bytes-loop-value
invariant-size::list_bytes-loop-value l =
    record { fits : l.total < 2 ^ 64; sum : min (l.total + list_size (trees_of (drop l.value-index l.value-items))) (2 ^ 64 - 1) ≡ min (list_size (trees_of l.value-items)) (2 ^ 64 - 1) }

abbrev pub invariant-value::Item::size-loop-name : goal.invariant-value::Item::size-loop-name
invariant-value::Item::size-loop-name l =
    record { fits : l.total < 2 ^ 64; sum : min (l.total + item_size (attributes_of l.name-iterator)) (2 ^ 64 - 1) ≡ min (item_size l.self) (2 ^ 64 - 1) }
