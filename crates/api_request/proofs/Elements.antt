-- How what is told of a part of a transaction is told of the element that states it.
use Rattle.std.proofs.Common.{◌≡◌, subst, Result, Ok, Err}
use Rattle.serde_json.specs.Data.{Data}
use Rattle.table_request.specs.declared.transactions.TransactAction.{TransactAction}
use Rattle.table_request.specs.declared.transactions.TransactRead.{TransactRead}
use Rattle.request_parts.specs.declared.refusal.Refusal.{Refusal}
use Rattle.base_types.specs.declared.end.End.{End}
use Rattle.base_types.specs.declared.end.End.TheVariants.{Fault, NoMemory}
use Rattle.request_parts.specs.Ends.{IsToldOf}
use Rattle.request_parts.specs.Asks.{IsPart, IsRefused, IsAccepted}
use Rattle.request_parts.specs.Parts.{projection_asks}
use Rattle.api_request.specs.Transactions.{Action, action_in, asks_of, StatesAction, action_asks, StatesActionIn, get_in, StatesGet, StatesRead, read_asks}

-- what is told of an action is told of the element that states it
pub at_action : (d : Data) (a : Action) (r : Result TransactAction (End Refusal))
    → a ≡ action_in d → IsToldOf (IsPart asks_of StatesAction a) r → IsToldOf (IsPart action_asks StatesActionIn d) r
at_action d a (Ok r) same told = subst (λ x. StatesAction x r × IsAccepted (asks_of x)) same told
at_action d a (Err (Fault why)) same told = subst (λ x. IsRefused (asks_of x) why) same told
at_action d a (Err NoMemory) same told = tt

-- what is told of a read is told of the element that states it
pub at_get : (d e : Data) (r : Result TransactRead (End Refusal))
    → e ≡ get_in d → IsToldOf (IsPart projection_asks StatesGet e) r → IsToldOf (IsPart read_asks StatesRead d) r
at_get d e (Ok r) same told = subst (λ x. StatesGet x r × IsAccepted (projection_asks x)) same told
at_get d e (Err (Fault why)) same told = subst (λ x. IsRefused (projection_asks x) why) same told
at_get d e (Err NoMemory) same told = tt
