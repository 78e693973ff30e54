use Rattle.api_reply.proofs.Joins.{further, wrapped}
use Rattle.api_reply.proofs.time_to_live.SpecificationToJson.write.Goals as goal

pub returns-clause-tokens : goal.returns-clause-tokens
returns-clause-tokens c =
    wrapped _ _ _ _ _ _ c.in_ok-begin_object.ensures.ok
    (further _ _ _ _ _ c.in_ok-write_member.ensures.adds
    c.in_ok-write_member-2.ensures.adds)
    c.end_object.ensures.ok
