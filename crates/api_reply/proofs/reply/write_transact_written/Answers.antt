use Rattle.api_reply.proofs.Beside.{wrapped_alone}
use Rattle.api_reply.proofs.reply.write_transact_written.Goals as goal

pub returns-clause-tokens : goal.returns-clause-tokens
returns-clause-tokens c =
    wrapped_alone _ _ _ _ _ _ c.in_ok-begin_object.ensures.ok c.in_ok-write_consumed.ensures.tokens c.end_object.ensures.ok
