use Rattle.api_reply.proofs.Joins.{wrapped}
use Rattle.api_reply.proofs.reply.OptionSharedItemToJson.write.Goals as goal

pub returns-clause-tokens : goal.returns-clause-tokens
returns-clause-tokens c =
    wrapped _ _ _ _ _ _ c.in_ok-begin_object.ensures.ok
    c.in_ok-write_optional.ensures.adds
    c.end_object.ensures.ok
