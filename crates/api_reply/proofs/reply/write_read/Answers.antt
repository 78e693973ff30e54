use Rattle.api_reply.proofs.Beside.{item_goes_last, wrapped_first}
use Rattle.api_reply.proofs.reply.write_read.Goals as goal

pub returns-clause-tokens : goal.returns-clause-tokens
returns-clause-tokens c =
    wrapped_first _ _ _ _ _ _ _ _ c.in_ok-begin_object.ensures.ok c.in_ok-write_consumed.ensures.tokens
    c.in_ok-write_optional.ensures.adds (item_goes_last _) c.end_object.ensures.ok
