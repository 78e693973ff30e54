-- The tables that are there: by number and by name, with the numbers of their global indexes.
use Rattle.std.specs.Prelude.{ℕ, ◌+◌, Bool, true, ◌&&◌, nat_eq, nat_le, max, List, [], ◌∷◌, map, bytes_eq, Option, None, Some, is_some, if◌then◌else◌}
use Rattle.std.specs.List.{zip}
use Rattle.std.specs.Ordering.{nat_cmp, is_lt}
use Rattle.std.specs.Cmp.Lexicographic.{slice_cmp}
use Rattle.table_schema.specs.declared.index.GlobalIndex.{GlobalIndex}
use Rattle.cell_model.specs.declared.catalog.Catalog.{Catalog}
use Rattle.cell_model.specs.declared.catalog.CatalogTable.{CatalogTable}

-- ---- tables

abbrev pub no_table : Catalog
no_table = record { drawn = 0; tables = [] }

-- the table of a number
abbrev pub numbered : List CatalogTable → ℕ → Option CatalogTable
numbered [] number = None
numbered (table ∷ tables) number = if nat_eq table.number number then Some table else numbered tables number

-- the table of a name
abbrev pub named : List CatalogTable → List ℕ → Option CatalogTable
named [] name = None
named (table ∷ tables) name = if bytes_eq table.schema.name name then Some table else named tables name

-- the catalog has a table of this number
abbrev pub has_table : Catalog → ℕ → Bool
has_table catalog number = is_some (numbered catalog.tables number)

-- the tables with one more, which stands before those of greater names
abbrev pub entered : CatalogTable → List CatalogTable → List CatalogTable
entered table [] = table ∷ []
entered table (other ∷ others) =
    if is_lt (slice_cmp nat_cmp table.schema.name other.schema.name) then table ∷ other ∷ others else other ∷ entered table others

-- ---- numbers

-- the numbers ascend from this one on
abbrev pub ascend_from : ℕ → List ℕ → Bool
ascend_from least [] = true
ascend_from least (number ∷ numbers) = nat_le least number && ascend_from (number + 1) numbers

-- the global indexes of a table under their numbers, which ascend
abbrev pub numbered_indexes : CatalogTable → List (ℕ × GlobalIndex)
numbered_indexes table = if ascend_from 0 table.indexes then zip table.indexes table.schema.globals else []

abbrev pub index_numbers : CatalogTable → List ℕ
index_numbers table = map (λ entry. entry.0) (numbered_indexes table)

-- the index of a number
abbrev pub index_at : ℕ → List (ℕ × GlobalIndex) → Option GlobalIndex
index_at number [] = None
index_at number (entry ∷ entries) = if nat_eq entry.0 number then Some entry.1 else index_at number entries

abbrev pub greatest_of : List ℕ → ℕ
greatest_of [] = 0
greatest_of (number ∷ numbers) = max number (greatest_of numbers)

-- the greatest number of these tables and their indexes
abbrev pub greatest_in : List CatalogTable → ℕ
greatest_in [] = 0
greatest_in (table ∷ tables) = max (max table.number (greatest_of table.indexes)) (greatest_in tables)

-- the greatest number that was drawn: no table that is there, and no index, has a greater one
abbrev pub last_drawn : Catalog → ℕ
last_drawn catalog = max catalog.drawn (greatest_in catalog.tables)
