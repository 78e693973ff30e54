use Rattle.item_writes.proofs.Places.{elements_close_up, order_is_kept, elements_are_kept, elements_are_put}
use Rattle.item_writes.proofs.Places.{values_are_appended, as_many}
use Rattle.item_writes.proofs.Origins.{nothing_else}
use Rattle.item_writes.proofs.path_laws.lists_by_place.Goals as goal

pub returns-clause-closes_up : goal.returns-clause-closes_up
returns-clause-closes_up c = elements_close_up

pub returns-clause-order : goal.returns-clause-order
returns-clause-order c = order_is_kept

pub returns-clause-kept : goal.returns-clause-kept
returns-clause-kept c = elements_are_kept

pub returns-clause-put : goal.returns-clause-put
returns-clause-put c = elements_are_put

pub returns-clause-appended : goal.returns-clause-appended
returns-clause-appended c = values_are_appended

pub returns-clause-nothing_else : goal.returns-clause-nothing_else
returns-clause-nothing_else c = nothing_else

pub returns-clause-as_many : goal.returns-clause-as_many
returns-clause-as_many c = as_many
