use Rattle.api_reply.proofs.description.write_kept_names.Goals as goal

pub returns-in-Include-clause-adds : goal.returns-in-Include-clause-adds
returns-in-Include-clause-adds c = rw c.in-Include.is c.write_list_member.ensures.adds
