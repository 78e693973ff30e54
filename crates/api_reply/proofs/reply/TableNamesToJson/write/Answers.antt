use Rattle.api_reply.proofs.Joins.{further, wrapped}
use Rattle.api_reply.proofs.reply.TableNamesToJson.write.Goals as goal

pub returns-clause-tokens : goal.returns-clause-tokens
returns-clause-tokens c =
    wrapped _ _ _ _ _ _ c.in_ok-begin_object.ensures.ok
    (further _ _ _ _ _ c.in_ok-write_optional.ensures.adds
    c.in_ok-write_list_member.ensures.adds)
    c.end_object.ensures.ok
