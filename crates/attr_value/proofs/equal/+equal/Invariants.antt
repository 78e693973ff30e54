use Rattle.std.proofs.Common.{◌≡◌, drop}
use Rattle.attr_value.specs.Equality.{same_elements, same_attributes}
use Rattle.attr_value.specs.View.{trees_of, attributes_of}
use Rattle.attr_value.proofs.equal.+equal.Given as goal

abbrev pub invariant-are_equal_lists-loop-place : goal.invariant-are_equal_lists-loop-place
invariant-are_equal_lists-loop-place l =
    same_elements (trees_of l.values) (trees_of l.others) ≡ same_elements (trees_of (drop l.place l.values)) (trees_of (drop l.place l.others))

abbrev pub invariant-are_equal_items-loop-name : goal.invariant-are_equal_items-loop-name
invariant-are_equal_items-loop-name l =
    same_attributes l.item l.other ≡ same_attributes (attributes_of l.name-iterator) (attributes_of l.others)
