-- What a call does, and what it answers.
use Rattle.std.specs.Prelude.{◌≡◌, ℕ, List, Option, None, Result, Ok, Err, if◌then◌else◌}
use Rattle.std.specs.Prelude.{◌⊎◌}
use Rattle.std.specs.FinMap.{insert}
use Rattle.std.specs.Cmp.Lexicographic.{pointwise}
use Rattle.client_tokens.specs.declared.kept.Kept.{Kept as KeptToken}
use Rattle.client_tokens.specs.TokenMap.{TokenMap, purged}
use Rattle.table_request.specs.declared.consumed.Consumed.{Consumed}
use Rattle.table_request.specs.declared.transactions.TransactWrite.{TransactWrite}
use Rattle.table_request.specs.declared.transactions.TransactAction.{TransactAction}
use Rattle.table_model.specs.declared.action.NumberedAction.{NumberedAction}
use Rattle.table_model.specs.declared.reply.Reply.{Reply}
use Rattle.table_model.specs.declared.reply.Reply.TheVariants as answer
use Rattle.table_model.specs.declared.refusal.Refusal.{Refusal}
use Rattle.table_model.specs.declared.refusal.Refusal.TheVariants.{Mismatch}
use Rattle.table_model.specs.Transactions.{same_action, kept_at, kept_of, transacted, repeated, transact_write}
use Rattle.numbered_tables.specs.Tables.{Kept, database_in}
use Rattle.numbered_tables.specs.declared.change.TableChange.{TableChange}
use Rattle.numbered_tables.specs.Changes.{IsChanged}

abbrev pub Tokens : Type 0
Tokens = TokenMap (List NumberedAction)

-- the actions are made, or were made before, or why they are not
abbrev pub Ending : Type 0
Ending = Result (Unit {0}) Refusal

-- what is told of them, with what they use where that is told
abbrev pub told : Option (List Consumed) → Ending → Reply
told consumed (Ok made) = answer.TransactWritten consumed
told consumed (Err why) = answer.Refused why

-- how actions end whose token is kept
abbrev pub repeat_ending : KeptToken (List NumberedAction) → List NumberedAction → Ending
repeat_ending kept actions = if pointwise same_action kept.actions actions then Ok tt else Err Mismatch

-- the changes are made, and the token is kept with the actions
abbrev pub IsKept : Kept → Tokens → List ℕ → List NumberedAction → List TableChange → ℕ → Kept → Tokens → Ending → Type 0
IsKept old tokens token actions changes moment new kept ending =
    IsChanged old changes new × (kept ≡ insert tokens token (kept_at moment actions)) × (ending ≡ Ok tt)

-- the request of these actions
abbrev pub request_of : List TransactAction → Option (List ℕ) → Option (List Consumed) → TransactWrite
request_of actions token consumed = record { actions = actions; token = token; consumed = consumed }

-- actions without a token are made, or one is not accepted
abbrev pub IsMade : Kept → List TransactAction → Kept → Ending → Type 0
IsMade old actions new ending =
    (consumed : Option (List Consumed)) (tokens : Tokens) (made moment : ℕ)
    → transacted (database_in old tokens made) (request_of actions None consumed) moment
    ≡ (database_in new tokens made, told consumed ending)

-- actions that fit the tables are answered, where no token's life is over
abbrev pub IsAnswered : Kept → Tokens → List TransactAction → Option (List ℕ) → ℕ → Kept → Tokens → Ending → Type 0
IsAnswered old tokens actions token moment new kept ending =
    (consumed : Option (List Consumed)) (made : ℕ)
    → repeated (database_in old tokens made) (request_of actions token consumed) moment (kept_of (database_in old tokens made) token)
    ≡ (database_in new kept made, told consumed ending)

-- the effect of a request on the tables and tokens, whatever the count of the tables made
abbrev pub IsTransactWrite : Kept → Tokens → TransactWrite → ℕ → Kept → Tokens → Reply → Type 0
IsTransactWrite old tokens request moment new kept reply =
    (made : ℕ) → transact_write (database_in old tokens made) request moment ≡ (database_in new kept made, reply)

-- the tokens are as they were, or without those whose life was over
abbrev pub AreSameOrPurged : Tokens → ℕ → Tokens → Type 0
AreSameOrPurged old moment new = (new ≡ old) ⊎ (new ≡ purged old moment)
