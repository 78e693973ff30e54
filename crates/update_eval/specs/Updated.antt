-- The item that an update makes of an old one.
use Rattle.std.specs.Prelude.{ℕ, List, [], nat_lt, if◌then◌else◌, Ok, Err}
use Rattle.std.specs.declared.cmp.Ordering.{Ordering}
use Rattle.attr_value.specs.Tree.{Attributes}
use Rattle.attr_value.specs.Sizes.{item_depth, item_size, most_levels}
use Rattle.attr_value.specs.declared.value.Value.{Value}
use Rattle.expr_parse.specs.UpdateTree.{UpdateTree}
use Rattle.path_entries.specs.Order.{path_order}
use Rattle.item_writes.specs.NewTree.{Written}
use Rattle.item_writes.specs.Union.{in_order}
use Rattle.item_writes.specs.Edits.{item_with_all}
use Rattle.update_eval.specs.Answers.{Answer, after}
use Rattle.update_eval.specs.Actions.{set_writes, remove_writes, add_writes, delete_writes, with_writes}
use Rattle.update_eval.specs.declared.fault.EvalFault.TheVariants.{TooDeep, ItemTooLarge}

-- with the writes of ADD and then of DELETE, or the first fault
abbrev pub behind_removes : List Value → Attributes → UpdateTree → List Written → Answer (List Written)
behind_removes values old u ws =
    after (with_writes (add_writes values old) u.adds ws) (with_writes (delete_writes values old) u.deletes)

-- with those of REMOVE and what is behind it
abbrev pub behind_sets : List Value → Attributes → UpdateTree → List Written → Answer (List Written)
behind_sets values old u ws =
    after (with_writes (remove_writes old) u.removes ws) (behind_removes values old u)

-- the writes of all actions, each on the old item, or the first fault
abbrev pub writes_of : List Value → Attributes → UpdateTree → Answer (List Written)
writes_of values old u = after (with_writes (set_writes values old) u.sets []) (behind_sets values old u)

abbrev pub write_order : Written → Written → Ordering
write_order v w = path_order v.0 w.0

-- the writes in order of their paths, of which none begins another's
abbrev pub by_path : List Written → List Written
by_path = in_order write_order

-- the most bytes of an item (DynamoDB Developer Guide, "Service, account, and table quotas": item size)
abbrev pub most_bytes : ℕ
most_bytes = 409600

-- the item, where it is neither too deep nor too large
abbrev pub within : Attributes → Answer Attributes
within item =
    if nat_lt most_levels (item_depth item) then Err TooDeep
    else if nat_lt most_bytes (item_size item) then Err ItemTooLarge else Ok item

-- all writes at once, and then the limits
abbrev pub updated : List Value → Attributes → UpdateTree → Answer Attributes
updated values old u = after (writes_of values old u) (λ ws. within (item_with_all old (by_path ws)))
