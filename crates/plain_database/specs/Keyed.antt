-- Databases whose rows stand at their items' keys.
use Rattle.std.specs.Prelude.{ℕ, List}
use Rattle.std.specs.List.{AllByRecursion}
use Rattle.page_ranges.specs.AtKeys.{AreAtKeys}
use Rattle.table_model.specs.Database.{Table, Database}

-- each row of the table stands at the key of its item
abbrev pub IsKeyed : Table → Type 0
IsKeyed table = AreAtKeys table.schema table.rows

abbrev pub AreKeyed : List (List ℕ × Table) → Type 0
AreKeyed tables = AllByRecursion (λ entry. IsKeyed entry.1) tables

-- so it is in every table of the database
abbrev pub HasRowsAtKeys : Database → Type 0
HasRowsAtKeys db = AreKeyed db.tables
