use Rattle.api_reply.proofs.Joins.{further, wrapped}
use Rattle.api_reply.proofs.time_to_live.DescriptionToJson.write.Goals as goal

pub returns-clause-tokens : goal.returns-clause-tokens
returns-clause-tokens c =
    wrapped _ _ _ _ _ _ c.in_ok-begin_object.ensures.ok
    (further _ _ _ _ _ c.in_ok-write_optional.ensures.adds
    (rw c.status.ensures at c.in_ok-write_text.ensures.adds))
    c.end_object.ensures.ok
