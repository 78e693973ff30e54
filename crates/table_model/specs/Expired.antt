-- What is left of a database once the items that are expired are gone.
use Rattle.std.specs.Prelude.{ℕ, ◌/◌, List, map, filter, not}
use Rattle.row_keys.specs.Rows.{Rows}
use Rattle.row_keys.specs.Expiry.{is_expired}
use Rattle.table_schema.specs.declared.schema.Schema.{Schema}
use Rattle.table_model.specs.Database.{Database, Table}

-- the second of a moment, which counts microseconds
abbrev pub second_of : ℕ → ℕ
second_of moment = moment / 1000000

-- the rows whose items are not expired at a second
abbrev pub fresh_rows : Schema → ℕ → Rows → Rows
fresh_rows schema second rows = filter (λ row. not (is_expired schema.ttl row.1 second)) rows

abbrev pub swept_at : ℕ → Table → Table
swept_at second table = record table { rows = fresh_rows table.schema second table.rows }

abbrev pub swept_tables : ℕ → List (List ℕ × Table) → List (List ℕ × Table)
swept_tables second tables = map (λ entry. (entry.0, swept_at second entry.1)) tables

-- the database without the items that are expired at the moment
abbrev pub swept : Database → ℕ → Database
swept db moment = record db { tables = swept_tables (second_of moment) db.tables }
