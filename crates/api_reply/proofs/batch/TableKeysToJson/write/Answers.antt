use Rattle.api_reply.proofs.Joins.{further, wrapped}
use Rattle.api_reply.proofs.batch.TableKeysToJson.write.Goals as goal

pub returns-clause-tokens : goal.returns-clause-tokens
returns-clause-tokens c =
    wrapped _ _ _ _ _ _ c.in_ok-begin_object.ensures.ok
    (further _ _ _ _ _ c.in_ok-write_attributes.ensures.adds
    (further _ _ _ _ _ c.in_ok-write_optional.ensures.adds
    (further _ _ _ _ _ c.in_ok-write_names.ensures.adds
    (further _ _ _ _ _ c.in_ok-write_list_member.ensures.adds
    c.in_ok-write_optional-2.ensures.adds))))
    c.end_object.ensures.ok
