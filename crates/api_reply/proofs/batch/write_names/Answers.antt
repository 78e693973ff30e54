use Rattle.api_reply.proofs.batch.write_names.Goals as goal

pub returns-in-Some-clause-adds : goal.returns-in-Some-clause-adds
returns-in-Some-clause-adds c = rw c.in-Some.is c.write_object_member.ensures.adds
