use Rattle.api_reply.proofs.reply.write_reply.Goals as goal

pub returns-in-TimeToLiveSet-clause-tokens : goal.returns-in-TimeToLiveSet-clause-tokens
returns-in-TimeToLiveSet-clause-tokens c = rw c.in-TimeToLiveSet.is c.write_named-in-TimeToLiveSet.ensures.tokens
