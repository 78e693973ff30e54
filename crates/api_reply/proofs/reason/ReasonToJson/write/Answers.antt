use Rattle.api_reply.proofs.Joins.{further, wrapped}
use Rattle.api_reply.proofs.reason.ReasonToJson.write.Goals as goal

pub returns-clause-tokens : goal.returns-clause-tokens
returns-clause-tokens c =
    wrapped _ _ _ _ _ _ c.in_ok-begin_object.ensures.ok
    (further _ _ _ _ _ (rw c.code_of.ensures at c.in_ok-write_text.ensures.adds)
    (further _ _ _ _ _ c.in_ok-write_shown_item.ensures.adds
    (rw c.in_ok-message.ensures at c.in_ok-write_optional.ensures.adds)))
    c.end_object.ensures.ok
