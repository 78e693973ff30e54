use Rattle.std.proofs.Common.{◌≡◌, ◌+◌, ◌*◌, List, ◌++◌, drop}
use Rattle.attr_value.specs.Tree.{tree_weight, trees_weight, weight}
use Rattle.attr_value.specs.View.{tree_of, trees_of, attributes_of}
use Rattle.path_entries.specs.Entries.{entries_of}
use Rattle.item_writes.specs.Edits.{appended, elements_from, item_with_all, kept_attributes, list_with_all, put_all}
use Rattle.attr_value.specs.Parts.{onto}
use Rattle.item_writes.specs.NewTree.{seen}
use Rattle.attr_value.proofs.Views.{Entry}
use Rattle.item_writes.proofs.edit.+edit.Given as goal

abbrev pub invariant-write_all-loop-name : goal.invariant-write_all-loop-name
invariant-write_all-loop-name l =
    (done : List Entry) × (attributes_of (done ++ l.name-iterator) ≡ l.item) × (l.new ≡ kept_attributes (attributes_of done) (seen (entries_of l.writes)))

abbrev pub invariant-write_all-loop-write : goal.invariant-write_all-loop-write
invariant-write_all-loop-write l =
    put_all (seen (entries_of (drop l.write-index l.writes))) l.new ≡ item_with_all l.item (seen (entries_of l.writes))

abbrev pub invariant-list_of-loop-value : goal.invariant-list_of-loop-value
invariant-list_of-loop-value l =
    (l.place ≡ l.value-index) × (onto (trees_of l.new) (elements_from (trees_of (drop l.value-index l.value-items)) l.place (seen (entries_of l.writes))) ≡ list_with_all (trees_of l.value-items) (seen (entries_of l.writes)))

abbrev pub invariant-list_of-loop-write : goal.invariant-list_of-loop-write
invariant-list_of-loop-write l =
    onto (trees_of l.new) (appended l.place (seen (entries_of (drop l.write-index l.writes)))) ≡ list_with_all l.list (seen (entries_of l.writes))

-- a value is taken apart, what is in it is next
abbrev pub decreases-kept : goal.decreases-kept
decreases-kept l = 4 * tree_weight (tree_of l.value.now) + 1

abbrev pub decreases-element : goal.decreases-element
decreases-element l = 4 * tree_weight (tree_of l.value.now) + 1

abbrev pub decreases-inside : goal.decreases-inside
decreases-inside l = 4 * tree_weight (tree_of l.value.now)

abbrev pub decreases-write_all : goal.decreases-write_all
decreases-write_all l = 4 * weight l.item.now + 2

abbrev pub decreases-list_of : goal.decreases-list_of
decreases-list_of l = 4 * trees_weight l.list.now + 2
