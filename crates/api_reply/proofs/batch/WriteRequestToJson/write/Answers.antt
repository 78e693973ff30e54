use Rattle.api_reply.proofs.batch.WriteRequestToJson.write.Goals as goal

pub returns-in-Put-clause-tokens : goal.returns-in-Put-clause-tokens
returns-in-Put-clause-tokens c = rw c.in-Put.is c.write_request.ensures.tokens

pub returns-in-Delete-clause-tokens : goal.returns-in-Delete-clause-tokens
returns-in-Delete-clause-tokens c = rw c.in-Delete.is c.write_request-in-Delete.ensures.tokens
