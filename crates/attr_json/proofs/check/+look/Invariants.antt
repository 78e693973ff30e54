use Rattle.std.proofs.Common.{◌≡◌, drop}
use Rattle.serde_json.specs.View.{items_view, members_view}
use Rattle.attr_json.specs.Values.{elements_of, attributes_of, fault_in}
use Rattle.attr_json.proofs.check.+look.Given as goal

abbrev pub invariant-elements_in-loop-item : goal.invariant-elements_in-loop-item
invariant-elements_in-loop-item l =
    fault_in (elements_of (items_view (drop l.item-index l.items)) l.levels) ≡ fault_in (elements_of (items_view l.items) l.levels)

abbrev pub invariant-attributes_in-loop-name : goal.invariant-attributes_in-loop-name
invariant-attributes_in-loop-name l =
    fault_in (attributes_of (members_view l._name-iterator) l.levels) ≡ fault_in (attributes_of (members_view l.members.entries) l.levels)
