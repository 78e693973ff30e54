use Rattle.std.proofs.Common.{◌≡◌, ◌++◌, drop}
use Rattle.serde_json.specs.View.{items_view}
use Rattle.attr_json.specs.Values.{strings_in}
use Rattle.attr_json.proofs.set.texts_in.Given as goal

abbrev pub invariant-loop-item : goal.invariant-loop-item
invariant-loop-item l = l.texts ++ strings_in (items_view (drop l.item-index l.items)) ≡ strings_in (items_view l.items)
