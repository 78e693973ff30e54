use Rattle.api_reply.proofs.Beside.{wrapped_last}
use Rattle.api_reply.proofs.reply.write_written.Goals as goal

pub returns-clause-tokens : goal.returns-clause-tokens
returns-clause-tokens c =
    wrapped_last _ _ _ _ _ _ _ _ c.in_ok-begin_object.ensures.ok c.in_ok-write_optional.ensures.adds
    c.in_ok-write_consumed.ensures.tokens c.end_object.ensures.ok
