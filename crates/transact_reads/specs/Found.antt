-- Reads with their tables and their keys.
use Rattle.std.specs.Prelude.{◌≡◌, List, [], ◌∷◌, map, Option, None, Some, option_and_then, Result, Ok, Err}
use Rattle.std.specs.FinMap.{empty}
use Rattle.attr_value.specs.Tree.{Attributes}
use Rattle.row_keys.specs.Rows.{item_at}
use Rattle.table_request.specs.declared.consumed.Consumed.{Consumed}
use Rattle.table_request.specs.declared.transactions.TransactRead.{TransactRead}
use Rattle.table_model.specs.declared.refusal.Refusal.{Refusal}
use Rattle.table_model.specs.Database.{Database, first}
use Rattle.table_model.specs.Batches.{missing, key_refusal}
use Rattle.table_model.specs.Transactions.{Target, read_key, read_target, read_view, used_by_read}
use Rattle.numbered_tables.specs.Tables.{Kept, database_in}
use Rattle.transact_reads.specs.declared.found.FoundRead.{FoundRead}
use Rattle.transact_reads.specs.Told.{shown_in, used_in}

-- the database of these tables alone
abbrev pub database_of : Kept → Database
database_of tables = database_in tables empty 0

-- the item that is read
abbrev pub target_of : FoundRead → Target
target_of found = record { name = found.read.now.table; number = found.table.now.number; key = found.key }

abbrev pub item_of : FoundRead → Option Attributes
item_of found = item_at found.table.now.rows.rows found.key

-- what is shown of it, where it is there
abbrev pub shown_of : FoundRead → Option Attributes
shown_of found = shown_in found.read.now (item_of found)

-- what its read uses
abbrev pub used_by : FoundRead → Consumed
used_by found = used_in found.read.now (item_of found)

-- the refusal of a read: of its table, or of its key
abbrev pub refusal_at : Database → TransactRead → Option Refusal
refusal_at db read = first (missing db read.table ∷ option_and_then key_refusal (read_key db read) ∷ [])

-- a read is refused, or is found
abbrev pub IsFound : Database → TransactRead → Result FoundRead Refusal → Type 0
IsFound db read (Err refusal) = refusal_at db read ≡ Some refusal
IsFound db read (Ok found) =
    (refusal_at db read ≡ None) × (read_target db read ≡ Some (target_of found)) × (read_view db read ≡ shown_of found)
    × (used_by_read db read ≡ used_by found)

-- the first of the reads that is refused is, or all are found
abbrev pub AreFound : Database → List TransactRead → Result (List FoundRead) Refusal → Type 0
AreFound db reads (Err refusal) = first (map (refusal_at db) reads) ≡ Some refusal
AreFound db reads (Ok found) =
    (first (map (refusal_at db) reads) ≡ None) × (map (read_target db) reads ≡ map (λ read. Some (target_of read)) found)
    × (map (read_view db) reads ≡ map shown_of found) × (map (used_by_read db) reads ≡ map used_by found)
