use Rattle.std.proofs.Common.{◌≡◌, ◌++◌, drop}
use Rattle.serde_json.specs.Data.{no_members}
use Rattle.api_reply.specs.Json.{entries, inside}
use Rattle.api_reply.proofs.to_json.write_object.Given as goal

abbrev pub invariant-loop-value : goal.invariant-loop-value
invariant-loop-value g l =
    (l.writer.tokens ++ inside (entries g.T.Entry.key g.T.ToJson.as_data (drop l.value-index l.value-items) no_members)
    ≡ l.initial.writer.tokens ++ inside (entries g.T.Entry.key g.T.ToJson.as_data l.value-items no_members))
    × (l.writer.before ≡ l.initial.writer.before)
