-- The tree of what is written at a path.
use Rattle.std.specs.Prelude.{List, map, Option, option_map}
use Rattle.std.specs.Borrow.{Bor}
use Rattle.std.specs.Cmp.Lexicographic.{slice_cmp}
use Rattle.std.specs.Ordering.{nat_cmp, int_cmp}
use Rattle.base_types.specs.declared.path.Step.{Step}
use Rattle.attr_value.specs.Tree.{Tree, list, text_set, number_set, binary_set}
use Rattle.attr_value.specs.View.{tree_of}
use Rattle.item_writes.specs.Joined.{joined}
use Rattle.item_writes.specs.Union.{united}
use Rattle.item_writes.specs.declared.new_value.NewValue.{NewValue}
use Rattle.item_writes.specs.declared.new_value.NewValue.TheVariants.{Lent, Made, Joined, Texts, Numbers, Binaries}

abbrev pub new_tree : NewValue → Tree
new_tree (Lent lent) = tree_of lent.value.now
new_tree (Made value) = tree_of value
new_tree (Joined lent) = list (joined lent.lists)
new_tree (Texts set more) = text_set (united (slice_cmp nat_cmp) set.now more.now)
new_tree (Numbers set more) = number_set (united int_cmp set.now more.now)
new_tree (Binaries set more) = binary_set (united (slice_cmp nat_cmp) set.now more.now)

-- a write: steps that lead to a place, and what will stand there, or nothing where what is there goes
abbrev pub Written : Type 0
Written = List Step × Option Tree

-- a write of the code, with the tree of its value
abbrev pub see : List Step × Option (Bor NewValue) → Written
see w = (w.0, option_map (λ value. new_tree value.now) w.1)

abbrev pub seen : List (List Step × Option (Bor NewValue)) → List Written
seen ws = map see ws
