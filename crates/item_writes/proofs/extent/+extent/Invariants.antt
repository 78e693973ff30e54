use Rattle.std.proofs.Common.{◌≡◌, ◌≤◌, ◌+◌, ◌-◌, ◌*◌, ◌^◌, min, max, List, ◌++◌, drop}
use Rattle.attr_value.specs.Sizes.{elements_depth, item_depth, list_size}
use Rattle.attr_value.specs.Tree.{tree_weight, trees_weight, weight}
use Rattle.attr_value.specs.View.{tree_of, trees_of, attributes_of}
use Rattle.attr_value.proofs.Views.{Entry}
use Rattle.path_entries.specs.Entries.{entries_of}
use Rattle.item_writes.specs.Edits.{elements_from, kept_attributes}
use Rattle.item_writes.specs.Extents.{attributes_bytes}
use Rattle.item_writes.specs.NewTree.{seen}
use Rattle.item_writes.proofs.extent.+extent.Given as goal

abbrev pub invariant-attributes-loop-name : goal.invariant-attributes-loop-name
invariant-attributes-loop-name l =
    (done : List Entry) × (attributes_of (done ++ l.name-iterator) ≡ l.item) × (l.all.bytes ≤ l.limit)
    × (min (l.all.bytes + attributes_bytes l.each (kept_attributes (attributes_of l.name-iterator) (seen (entries_of l.writes)))) l.limit
    ≡ min (attributes_bytes l.each (kept_attributes l.item (seen (entries_of l.writes)))) l.limit)
    × (max l.all.levels (min (item_depth (kept_attributes (attributes_of l.name-iterator) (seen (entries_of l.writes)))) (2 ^ 32 - 1))
    ≡ min (item_depth (kept_attributes l.item (seen (entries_of l.writes)))) (2 ^ 32 - 1))

abbrev pub invariant-elements-loop-value : goal.invariant-elements-loop-value
invariant-elements-loop-value l =
    (l.place ≡ l.value-index) × (l.all.bytes ≤ l.limit)
    × (min (l.all.bytes + list_size (elements_from (trees_of (drop l.value-index l.value-items)) l.place (seen (entries_of l.writes)))) l.limit
    ≡ min (list_size (elements_from (trees_of l.value-items) 0 (seen (entries_of l.writes)))) l.limit)
    × (max l.all.levels (min (elements_depth (elements_from (trees_of (drop l.value-index l.value-items)) l.place (seen (entries_of l.writes)))) (2 ^ 32 - 1))
    ≡ min (elements_depth (elements_from (trees_of l.value-items) 0 (seen (entries_of l.writes)))) (2 ^ 32 - 1))

-- a value is taken apart, what is in it is next
abbrev pub decreases-attribute : goal.decreases-attribute
decreases-attribute l = 4 * tree_weight (tree_of l.value.now) + 1

abbrev pub decreases-one_element : goal.decreases-one_element
decreases-one_element l = 4 * tree_weight (tree_of l.value.now) + 1

abbrev pub decreases-standing : goal.decreases-standing
decreases-standing l = 4 * tree_weight (tree_of l.value.now)

abbrev pub decreases-attributes : goal.decreases-attributes
decreases-attributes l = 4 * weight l.item.now + 2

abbrev pub decreases-elements : goal.decreases-elements
decreases-elements l = 4 * trees_weight l.list.now + 2
