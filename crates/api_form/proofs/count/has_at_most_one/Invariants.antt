use Rattle.std.proofs.Common.{◌≡◌, ◌+◌, drop}
use Rattle.serde_json.specs.View.{items_view}
use Rattle.api_form.specs.Faults.{element_count}
use Rattle.api_form.proofs.count.has_at_most_one.Given as goal

abbrev pub invariant-loop-element : goal.invariant-loop-element
invariant-loop-element l =
    element_count l.table (items_view l.items) + l.left ≡ 1 + element_count l.table (items_view (drop l.element-index l.items))
