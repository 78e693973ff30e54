use Rattle.std.proofs.Common.{◌≡◌, ◌++◌, drop, map}
use Rattle.serde_json.specs.View.{items_view}
use Rattle.attr_value.specs.View.{tree_of}
use Rattle.request_parts.specs.Members.{each}
use Rattle.request_parts.specs.Placeholders.{value_in}
use Rattle.request_parts.proofs.legacy_part.value_list.Given as goal

-- what is read and what is left are all
abbrev pub invariant-loop-json : goal.invariant-loop-json
invariant-loop-json l =
    map tree_of l.values ++ each value_in (items_view (drop l.json-index l.items)) ≡ each value_in (items_view l.items)
