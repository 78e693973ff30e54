use Rattle.api_reply.proofs.Joins.{wrapped}
use Rattle.api_reply.proofs.description.BillingToJson.write.Goals as goal

pub returns-clause-tokens : goal.returns-clause-tokens
returns-clause-tokens c =
    wrapped _ _ _ _ _ _ c.in_ok-begin_object.ensures.ok
    (rw c.billing_mode.ensures at c.in_ok-write_text.ensures.adds)
    c.end_object.ensures.ok
