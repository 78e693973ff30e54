use Rattle.std.proofs.Common.{◌≡◌, rules}
use Rattle.serde_json.specs.View.{members_view}
use Rattle.api_request.specs.Batches.{table_writes}
use Rattle.api_request.proofs.Ascending.{names_ascend}
use Rattle.api_request.proofs.batch.all_writes.Goals as goal

pub returns-clause-ascending : goal.returns-clause-ascending
returns-clause-ascending c =
    let all : c.loop-key.tables ≡ table_writes (members_view c.args.members.now.entries) = search rules in
    rw all (names_ascend c.args.members.now.entries c.len.ensures.ordered)
