-- The database: a map of tables, a map of tokens, and how many tables were made.
use Rattle.std.specs.Prelude.{ℕ, List, [], ◌∷◌, Bool, if◌then◌else◌, Option, None, Some, Result, Ok, Err}
use Rattle.std.specs.Ordering.{nat_cmp}
use Rattle.std.specs.Cmp.Lexicographic.{slice_cmp}
use Rattle.std.specs.FinMap.{empty}
use Rattle.std.specs.Map.{lookup, set_value}
use Rattle.std.specs.BTreeMap.{is_at}
use Rattle.attr_value.specs.Tree.{Attributes}
use Rattle.client_tokens.specs.TokenMap.{TokenMap}
use Rattle.item_keys.specs.declared.fault.KeyFault.{KeyFault}
use Rattle.item_keys.specs.declared.key.Key.{Key}
use Rattle.row_keys.specs.declared.row_key.RowKey.{RowKey}
use Rattle.table_schema.specs.declared.schema.Schema.{Schema}
use Rattle.table_model.specs.declared.action.NumberedAction.{NumberedAction}
use Rattle.table_model.specs.declared.reply.Reply.{Reply}
use Rattle.table_model.specs.declared.reply.Reply.TheVariants.{Refused}
use Rattle.table_model.specs.declared.refusal.Refusal.{Refusal}
use Rattle.table_model.specs.declared.refusal.Refusal.TheVariants as refusal
use Rattle.table_model.specs.declared.refusal.Refusal.TheVariants.{NoTable}
use Rattle.table_model.specs.declared.refusal.Invalid.TheVariants as invalid
use Rattle.row_keys.specs.Rows.{Rows, with_item}

-- a table: its number is the count of the tables made when it was made, itself included
pub record Table : Type 0 where
  pub number : ℕ
  pub schema : Schema
  pub rows : Rows

-- tables by name in the order of their bytes, tokens each with the actions that it was sent with and its completed
-- moment, and the count of the tables made so far
pub record Database : Type 0 where
  pub tables : List (List ℕ × Table)
  pub tokens : TokenMap (List NumberedAction)
  pub made : ℕ

abbrev pub empty_database : Database
empty_database = record { tables = []; tokens = empty; made = 0 }

abbrev pub table_named : Database → List ℕ → Option Table
table_named db name = lookup (is_at (slice_cmp nat_cmp name)) db.tables

-- the database with another table of this name, which is there
abbrev pub with_table : Database → List ℕ → Table → Database
with_table db name table = record db { tables = set_value (is_at (slice_cmp nat_cmp name)) db.tables table }

-- the database with another item at a key of a table
abbrev pub with_row : Database → List ℕ → Table → RowKey → Option Attributes → Database
with_row db name table key item = with_table db name (record table { rows = with_item table.rows key item })

-- nothing changes
abbrev pub refused : Database → Refusal → Database × Reply
refused db refusal = (db, Refused refusal)

abbrev pub Effect : Type 0
Effect = Database × Reply

-- the effect in the table of this name, where it is there
abbrev pub in_table : Database → List ℕ → Option Table → (Table → Effect) → Effect
in_table db name None effect = refused db (NoTable name)
in_table db name (Some table) effect = effect table

-- the effect at a key, where there is no fault of it
abbrev pub at_key : Database → Result Key KeyFault → (Key → Effect) → Effect
at_key db (Err fault) effect = refused db (refusal.Invalid (invalid.Key fault))
at_key db (Ok key) effect = effect key

-- the effect, unless there is a refusal
abbrev pub unless : Database → Option Refusal → Effect → Effect
unless db (Some refusal) effect = refused db refusal
unless db None effect = effect

-- the first of several refusals
abbrev pub first : List (Option Refusal) → Option Refusal
first [] = None
first (None ∷ others) = first others
first (Some refusal ∷ others) = Some refusal

-- a refusal, where the test passes
abbrev pub where_true : Bool → Refusal → Option Refusal
where_true test refusal = if test then Some refusal else None
