-- What TransactGetItems is answered on these tables.
use Rattle.std.specs.Prelude.{◌≡◌, ℕ, List, Bool}
use Rattle.client_tokens.specs.TokenMap.{TokenMap}
use Rattle.table_request.specs.declared.transactions.TransactGet.{TransactGet}
use Rattle.table_request.specs.declared.transactions.TransactRead.{TransactRead}
use Rattle.table_model.specs.declared.action.NumberedAction.{NumberedAction}
use Rattle.table_model.specs.declared.reply.Reply.{Reply}
use Rattle.table_model.specs.Transactions.{transact_get}
use Rattle.numbered_tables.specs.Tables.{Kept, database_in}

-- of every database of these tables, the effect is the same database, and the reply
abbrev pub IsTransactGet : Kept → TransactGet → Reply → Type 0
IsTransactGet tables request reply =
    (tokens : TokenMap (List NumberedAction)) (made : ℕ)
    → transact_get (database_in tables tokens made) request ≡ (database_in tables tokens made, reply)

-- the same of a request for these reads
abbrev pub IsAnswered : Kept → List TransactRead → Bool → Reply → Type 0
IsAnswered tables reads capacity reply = IsTransactGet tables (record { reads = reads; capacity = capacity }) reply
