-- The removals of all items that are expired.
use Rattle.std.specs.Prelude.{ℕ, List, map, None}
use Rattle.std.specs.List.{AllByRecursion, flat_map}
use Rattle.std.specs.List.Sorted.{IsStrictlySortedBy}
use Rattle.std.specs.Map.{keys_of}
use Rattle.row_keys.specs.declared.row_key.RowKey.{RowKey}
use Rattle.row_keys.specs.Keys.{row_order}
use Rattle.table_rows.specs.Quiet.{expired_rows}
use Rattle.table_model.specs.Database.{Table}
use Rattle.numbered_tables.specs.declared.change.TableChange.{TableChange}
use Rattle.numbered_tables.specs.Tables.{Kept}

abbrev pub removal : List ℕ → RowKey → TableChange
removal name key = record { table = name; key = key; new = None }

-- of a table under its name, in the order of its rows
abbrev pub removals_of : ℕ → List ℕ × Table → List TableChange
removals_of second entry = map (removal entry.0) (keys_of (expired_rows entry.1.schema second entry.1.rows))

-- of all tables
abbrev pub removals : ℕ → List (List ℕ × Table) → List TableChange
removals second tables = flat_map (removals_of second) tables

-- the rows of each table stand in order
abbrev pub AreInOrder : Kept → Type 0
AreInOrder entries = AllByRecursion (λ entry. IsStrictlySortedBy row_order (keys_of entry.1.rows.rows)) entries
