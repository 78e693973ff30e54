-- What requests on many items answer, over tables as they are kept.
use Rattle.std.specs.Prelude.{◌≡◌, ℕ, List}
use Rattle.std.specs.FinMap.{empty}
use Rattle.client_tokens.specs.TokenMap.{TokenMap}
use Rattle.table_request.specs.declared.batches.BatchGet.{BatchGet}
use Rattle.table_request.specs.declared.batches.BatchWrite.{BatchWrite}
use Rattle.table_model.specs.declared.action.NumberedAction.{NumberedAction}
use Rattle.table_model.specs.declared.reply.Reply.{Reply}
use Rattle.table_model.specs.Database.{Database}
use Rattle.table_model.specs.Batches.{batch_get, batch_write}
use Rattle.numbered_tables.specs.Tables.{Kept, database_in}

-- the request is answered as by the database of these tables, whatever its tokens and number, and changes nothing there
abbrev pub IsRead : Kept → BatchGet → Reply → Type 0
IsRead tables request reply =
    (tokens : TokenMap (List NumberedAction)) (made : ℕ)
    → batch_get (database_in tables tokens made) request ≡ (database_in tables tokens made, reply)

-- the request is answered and made as by the database of the old tables, which then is that of the new ones
abbrev pub IsWritten : Kept → BatchWrite → Kept → Reply → Type 0
IsWritten old request new reply =
    (tokens : TokenMap (List NumberedAction)) (made : ℕ)
    → batch_write (database_in old tokens made) request ≡ (database_in new tokens made, reply)

-- the database of these tables without tokens: what is asked of tables asks nothing else
abbrev pub tables_alone : Kept → Database
tables_alone tables = database_in tables empty 0
