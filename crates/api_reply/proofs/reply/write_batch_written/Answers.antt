use Rattle.std.proofs.Common.{refl}
use Rattle.api_reply.proofs.Beside.{wrapped_first}
use Rattle.api_reply.proofs.reply.write_batch_written.Goals as goal

pub returns-clause-tokens : goal.returns-clause-tokens
returns-clause-tokens c =
    wrapped_first _ _ _ _ _ _ _ _ c.in_ok-begin_object.ensures.ok c.in_ok-write_consumed.ensures.tokens
    c.in_ok-write_object_member.ensures.adds
    (λ j. refl) c.end_object.ensures.ok
