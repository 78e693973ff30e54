use Rattle.std.proofs.Common.{◌≡◌, ◌+◌, ◌≤◌, drop}
use Rattle.serde_json.specs.View.{members_view}
use Rattle.api_form.specs.Faults.{stated_count}
use Rattle.api_form.proofs.count.stated_count.Given as goal

abbrev pub invariant-loop-member : goal.invariant-loop-member
invariant-loop-member l = record {
  few : l.count ≤ l.member-index;
  so_far : l.count + stated_count (drop l.member-index l.table) (members_view l.map.entries) ≡ stated_count l.table (members_view l.map.entries);
}
