use Rattle.api_reply.proofs.batch.write_attributes.Goals as goal

pub returns-in-Some-clause-adds : goal.returns-in-Some-clause-adds
returns-in-Some-clause-adds c = rw c.in-Some.is c.write_list_member.ensures.adds
