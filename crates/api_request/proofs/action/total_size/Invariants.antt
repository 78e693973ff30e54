use Rattle.std.proofs.Common.{◌≡◌, ◌+◌, ◌-◌, ◌^◌, ◌<◌, min, drop}
use Rattle.serde_json.specs.View.{items_view}
use Rattle.api_request.specs.Transactions.{total_size}
use Rattle.api_request.proofs.action.total_size.Given as goal

-- what is counted and what is left are all
abbrev pub invariant-loop-item : goal.invariant-loop-item
invariant-loop-item l = record {
  fits : l.total < 2 ^ 64;
  sum : min (l.total + total_size (items_view (drop l.item-index l.items))) (2 ^ 64 - 1) ≡ min (total_size (items_view l.items)) (2 ^ 64 - 1);
}
