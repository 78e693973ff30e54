use Rattle.std.proofs.Common.{◌≡◌, drop}
use Rattle.serde_json.specs.View.{items_view}
use Rattle.api_request.specs.Tables.{first_change}
use Rattle.api_request.proofs.change.first_change.Given as goal

-- the first of what is left is the first of all
abbrev pub invariant-loop-item : goal.invariant-loop-item
invariant-loop-item l = first_change (items_view (drop l.item-index l.items)) ≡ first_change (items_view l.items)
