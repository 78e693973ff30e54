use Rattle.std.proofs.Common.{◌≡◌, ◌+◌, ◌*◌, List, ◌++◌, drop}
use Rattle.attr_value.specs.Tree.{tree_weight, trees_weight, weight}
use Rattle.attr_value.specs.View.{tree_of, trees_of, attributes_of}
use Rattle.path_entries.specs.Entries.{entries_of}
use Rattle.projection.specs.Picked.{picked_item, picked_from, picked_list}
use Rattle.attr_value.specs.Parts.{onto}
use Rattle.attr_value.proofs.Views.{Entry}
use Rattle.projection.proofs.picked.+pick.Given as goal

abbrev pub invariant-item_of-loop-name : goal.invariant-item_of-loop-name
invariant-item_of-loop-name l =
    (done : List Entry) × (attributes_of (done ++ l.name-iterator) ≡ l.item) × (l.new ≡ picked_item (attributes_of done) (entries_of l.paths))

abbrev pub invariant-list_of-loop-value : goal.invariant-list_of-loop-value
invariant-list_of-loop-value l =
    (l.place ≡ l.value-index) × (onto (trees_of l.new) (picked_from (trees_of (drop l.value-index l.value-items)) l.place (entries_of l.paths)) ≡ picked_list (trees_of l.value-items) (entries_of l.paths))

-- a value is taken apart, what is in it is next
abbrev pub decreases-value_of : goal.decreases-value_of
decreases-value_of l = 4 * tree_weight (tree_of l.value.now) + 1

abbrev pub decreases-inside_of : goal.decreases-inside_of
decreases-inside_of l = 4 * tree_weight (tree_of l.value.now)

abbrev pub decreases-item_of : goal.decreases-item_of
decreases-item_of l = 4 * weight l.item.now + 2

abbrev pub decreases-list_of : goal.decreases-list_of
decreases-list_of l = 4 * trees_weight l.list.now + 2
