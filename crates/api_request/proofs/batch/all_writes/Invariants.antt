use Rattle.std.proofs.Common.{◌≡◌, ◌++◌}
use Rattle.serde_json.specs.View.{members_view}
use Rattle.api_request.specs.Batches.{table_writes}
use Rattle.api_request.proofs.batch.all_writes.Given as goal

-- what is read and what is left are all
abbrev pub invariant-loop-key : goal.invariant-loop-key
invariant-loop-key l = l.tables ++ table_writes (members_view l.key-iterator) ≡ table_writes (members_view l.members.entries)
