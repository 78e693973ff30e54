use Rattle.std.proofs.Common.{◌≡◌, ◌+◌, ◌*◌, List, ◌++◌, drop}
use Rattle.json.specs.Tree.{items_tokens, members_tokens}
use Rattle.serde_json.specs.Written.{items_outline, members_outline}
use Rattle.attr_value.specs.Tree.{tree_weight, trees_weight, weight}
use Rattle.attr_value.specs.View.{tree_of, trees_of, attributes_of}
use Rattle.attr_json.specs.ReadBack.{ElementsReadBack, AttributesReadBack}
use Rattle.attr_json.specs.Written.{items_of, members_of}
use Rattle.attr_value.proofs.Views.{Entry as Attribute}
use Rattle.attr_json.proofs.text.+text.Given as goal

abbrev pub invariant-write_list-loop-value : goal.invariant-write_list-loop-value
invariant-write_list-loop-value l =
    (l.writer.tokens ++ items_tokens (items_outline (items_of (trees_of (drop l.value-index l.value-items))))
    ≡ l.initial.writer.tokens ++ items_tokens (items_outline (items_of (trees_of l.value-items))))
    × (l.writer.before ≡ l.initial.writer.before)
    × (ElementsReadBack (trees_of (drop l.value-index l.value-items)) → ElementsReadBack (trees_of l.value-items))

abbrev pub invariant-write_item-loop-name : goal.invariant-write_item-loop-name
invariant-write_item-loop-name l =
    (done : List Attribute) × (attributes_of (done ++ l.name-iterator) ≡ l.item)
    × (l.writer.tokens ++ members_tokens (members_outline (members_of (attributes_of l.name-iterator)))
    ≡ l.initial.writer.tokens ++ members_tokens (members_outline (members_of l.item)))
    × (l.writer.before ≡ l.initial.writer.before)
    × (AttributesReadBack (attributes_of l.name-iterator) → AttributesReadBack l.item)

-- a value is taken apart, what is in it is next
abbrev pub decreases-write_value : goal.decreases-write_value
decreases-write_value l = 3 * tree_weight (tree_of l.value.now) + 1

abbrev pub decreases-write_content : goal.decreases-write_content
decreases-write_content l = 3 * tree_weight (tree_of l.value.now)

abbrev pub decreases-write_list : goal.decreases-write_list
decreases-write_list l = 3 * trees_weight l.list.now + 2

abbrev pub decreases-write_item : goal.decreases-write_item
decreases-write_item l = 3 * weight l.item.now + 2
