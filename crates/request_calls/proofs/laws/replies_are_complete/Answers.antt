use Rattle.request_calls.proofs.Complete.{replies_are_complete, cancels_are_reasoned}
use Rattle.request_calls.proofs.laws.replies_are_complete.Goals as goal

pub returns-clause-replies : goal.returns-clause-replies
returns-clause-replies c = replies_are_complete

pub returns-clause-reasons : goal.returns-clause-reasons
returns-clause-reasons c = cancels_are_reasoned
