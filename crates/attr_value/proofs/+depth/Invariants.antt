use Rattle.std.proofs.Common.{◌≡◌, ◌-◌, ◌^◌, min, max, drop}
use Rattle.attr_value.specs.Sizes.{elements_depth, item_depth}
use Rattle.attr_value.specs.View.{trees_of, attributes_of}
use Rattle.attr_value.proofs.+depth.Given as goal

abbrev pub invariant-size::list_depth-loop-value : goal.invariant-size::list_depth-loop-value
invariant-size::list_depth-loop-value l =
    max l.deepest (min (elements_depth (trees_of (drop l.value-index l.value-items))) (2 ^ 32 - 1)) ≡ min (elements_depth (trees_of l.value-items)) (2 ^ 32 - 1)

abbrev pub invariant-value::Item::depth-loop-name : goal.invariant-value::Item::depth-loop-name
invariant-value::Item::depth-loop-name l =
    max l.deepest (min (item_depth (attributes_of l._name-iterator)) (2 ^ 32 - 1)) ≡ min (item_depth l.self) (2 ^ 32 - 1)
