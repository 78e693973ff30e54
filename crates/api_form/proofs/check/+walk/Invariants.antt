use Rattle.std.proofs.Common.{◌≡◌, drop}
use Rattle.serde_json.specs.View.{items_view, members_view}
use Rattle.api_form.specs.Faults.{first, element_faults, entry_faults, stated_faults, asked_at}
use Rattle.api_form.proofs.check.+walk.Given as goal

-- the first fault of what is left is the first of all
abbrev pub invariant-first_in_list-loop-element : goal.invariant-first_in_list-loop-element
invariant-first_in_list-loop-element l =
    first (element_faults (items_view (drop l.element-index l.items)) l.stage l.name l.rule) ≡ first (element_faults (items_view l.items) l.stage l.name l.rule)

abbrev pub invariant-first_in_map-loop-key : goal.invariant-first_in_map-loop-key
invariant-first_in_map-loop-key l =
    first (entry_faults (members_view l.key-iterator) l.stage l.name l.names l.rule) ≡ first (entry_faults (members_view l.map.entries) l.stage l.name l.names l.rule)

abbrev pub invariant-first_stated-loop-member : goal.invariant-first_stated-loop-member
invariant-first_stated-loop-member l =
    let ms = members_view l.map.entries in
    first (stated_faults l.stage (drop l.member-index l.table) ms (asked_at ms)) ≡ first (stated_faults l.stage l.table ms (asked_at ms))
