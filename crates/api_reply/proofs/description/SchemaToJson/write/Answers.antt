use Rattle.api_reply.proofs.Joins.{further, wrapped}
use Rattle.api_reply.proofs.description.SchemaToJson.write.Goals as goal

pub returns-clause-tokens : goal.returns-clause-tokens
returns-clause-tokens c =
    wrapped _ _ _ _ _ _ c.in_ok-begin_object.ensures.ok
    (further _ _ _ _ _ c.in_ok-write_list_member.ensures.adds
    (further _ _ _ _ _ c.in_ok-write_member.ensures.adds
    (further _ _ _ _ _ c.in_ok-write_whole.ensures.adds
    (further _ _ _ _ _ c.in_ok-write_indexes.ensures.adds
    (further _ _ _ _ _ c.in_ok-write_member-2.ensures.adds
    (further _ _ _ _ _ c.in_ok-write_indexes-2.ensures.adds
    (further _ _ _ _ _ c.in_ok-write_member-3.ensures.adds
    (further _ _ _ _ _ (rw c.in_ok-arn.ensures at c.in_ok-write_member-4.ensures.adds)
    (further _ _ _ _ _ c.in_ok-write_member-5.ensures.adds
    c.in_ok-write_text.ensures.adds)))))))))
    c.end_object.ensures.ok
