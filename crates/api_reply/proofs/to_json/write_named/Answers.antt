use Rattle.api_reply.proofs.Joins.{wrapped}
use Rattle.api_reply.proofs.to_json.write_named.Goals as goal

pub returns-clause-tokens : goal.returns-clause-tokens
returns-clause-tokens g c =
    wrapped _ _ _ _ _ _ c.in_ok-begin_object.ensures.ok
    c.in_ok-write_member.ensures.adds
    c.end_object.ensures.ok
