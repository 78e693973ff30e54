use Rattle.std.proofs.Common.{◌≡◌, List, ◌++◌, drop, Ok}
use Rattle.serde_json.specs.View.{items_view, members_view}
use Rattle.attr_json.specs.Steps.{mapped}
use Rattle.attr_json.specs.Values.{elements_of, attributes_of}
use Rattle.attr_json.proofs.Reading.{before}
use Rattle.attr_json.proofs.Members.{Entry}
use Rattle.attr_json.proofs.read.+read.Given as goal

abbrev pub invariant-elements_in-loop-item : goal.invariant-elements_in-loop-item
invariant-elements_in-loop-item l =
    mapped (before l.elements) (elements_of (items_view (drop l.item-index l.items)) l.levels) ≡ elements_of (items_view l.items) l.levels

abbrev pub invariant-item_in-loop-name : goal.invariant-item_in-loop-name
invariant-item_in-loop-name l =
    (done : List Entry) × (l.members.entries ≡ done ++ l.name-iterator) × (attributes_of (members_view done) l.levels ≡ Ok l.item)
