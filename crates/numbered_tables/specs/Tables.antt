-- Tables as they are kept, and the tables of the definitions that they are.
use Rattle.std.specs.Prelude.{◌≡◌, ℕ, List, [], map}
use Rattle.std.specs.List.{AllByRecursion}
use Rattle.client_tokens.specs.TokenMap.{TokenMap}
use Rattle.table_model.specs.declared.action.NumberedAction.{NumberedAction}
use Rattle.numbered_tables.specs.declared.table.NumberedTable.{NumberedTable}
use Rattle.table_schema.specs.declared.schema.Schema.{Schema}
use Rattle.table_model.specs.Database.{Table, Database}

abbrev pub Kept : Type 0
Kept = List (List ℕ × NumberedTable)

abbrev pub table_in : NumberedTable → Table
table_in t = record { number = t.number; schema = t.rows.schema; rows = t.rows.rows }

abbrev pub tables_in : Kept → List (List ℕ × Table)
tables_in entries = map (λ entry. (entry.0, table_in entry.1)) entries

-- nothing is prepared in any table
abbrev pub AreIdle : Kept → Type 0
AreIdle entries = AllByRecursion (λ entry. entry.1.rows.pending ≡ []) entries

-- a table without rows, as it is kept
abbrev pub new_table : ℕ → Schema → NumberedTable
new_table number schema = record { number = number; rows = record { schema = schema; rows = []; pending = [] } }

-- the database of these tables, tokens and number
abbrev pub database_in : Kept → TokenMap (List NumberedAction) → ℕ → Database
database_in es tokens made = record { tables = tables_in es; tokens = tokens; made = made }
