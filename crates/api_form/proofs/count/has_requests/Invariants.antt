use Rattle.std.proofs.Common.{◌≡◌, ◌+◌}
use Rattle.serde_json.specs.View.{members_view}
use Rattle.api_form.specs.Faults.{total_count}
use Rattle.api_form.proofs.count.has_requests.Given as goal

abbrev pub invariant-loop-table : goal.invariant-loop-table
invariant-loop-table l =
    total_count (members_view l.map.entries) + l.left ≡ l.most + total_count (members_view l._table-iterator)
