-- What a call on one table says of every database that has the table.
use Rattle.std.specs.Prelude.{◌≡◌, ℕ, List, [], Some}
use Rattle.table_rows.specs.View.{TableView}
use Rattle.table_model.specs.declared.reply.Reply.{Reply}
use Rattle.table_model.specs.Database.{Database, Table, Effect, table_named, with_table}

-- the table of this number that is kept like this
abbrev pub table_at : ℕ → TableView → Table
table_at number kept = record { number = number; schema = kept.schema; rows = kept.rows }

-- the database has this table under the name
abbrev pub HasTable : Database → List ℕ → ℕ → TableView → Type 0
HasTable db name number kept = table_named db name ≡ Some (table_at number kept)

-- a write was done: the table holds no prepared change, and of every database that has the table as it was, the effect is
-- the database with the table as it is, and the reply
pub record IsDone (name : List ℕ) (effect : Database → Effect) (old new : TableView) (reply : Reply) : Type 0 where
  pub idle : new.pending ≡ []
  pub made : (db : Database) (number : ℕ) → HasTable db name number old → effect db ≡ (with_table db name (table_at number new), reply)

-- a read was done: of every database that has the table, the effect is the same database, and the reply
abbrev pub IsTold : List ℕ → (Database → Effect) → TableView → Reply → Type 0
IsTold name effect kept reply = (db : Database) (number : ℕ) → HasTable db name number kept → effect db ≡ (db, reply)
