use Rattle.std.proofs.Common.{◌≡◌, ◌++◌, drop, map}
use Rattle.json.specs.Tree.{items_tokens}
use Rattle.serde_json.specs.View.{items_of}
use Rattle.serde_json.specs.Written.{items_outline}
use Rattle.api_reply.proofs.to_json.write_list.Given as goal

abbrev pub invariant-loop-value : goal.invariant-loop-value
invariant-loop-value g l =
    (l.writer.tokens ++ items_tokens (items_outline (items_of (map g.T.ToJson.as_data (drop l.value-index l.value-items))))
    ≡ l.initial.writer.tokens ++ items_tokens (items_outline (items_of (map g.T.ToJson.as_data l.value-items))))
    × (l.writer.before ≡ l.initial.writer.before)
