use Rattle.std.proofs.Common.{◌≡◌, ◌++◌, drop}
use Rattle.json.specs.Tree.{items_tokens}
use Rattle.api_reply.specs.Capacity.{each_capacity}
use Rattle.api_reply.proofs.consumed.SeqConsumedCapacity.write.Given as goal

abbrev pub invariant-loop-used : goal.invariant-loop-used
invariant-loop-used l =
    (l.writer.tokens ++ items_tokens (each_capacity (drop l.used-index l.used-items))
    ≡ l.initial.writer.tokens ++ items_tokens (each_capacity l.used-items))
    × (l.writer.before ≡ l.initial.writer.before)
