-- Pages of the rows of one cell (API Reference: Query, Scan).
use Rattle.std.specs.Prelude.{ℕ, ◌-◌, ◌%◌, Bool, true, false, ◌&&◌, nat_eq, nat_lt, List, [], ◌∷◌, map, filter, take, length, slice_get, Option, None, Some, option_map, if◌then◌else◌}
use Rattle.std.specs.List.{filter_map, list_any, fold}
use Rattle.attr_value.specs.Tree.{Attributes}
use Rattle.attr_value.specs.Sizes.{item_size}
use Rattle.table_schema.specs.declared.index.LocalIndex.{LocalIndex}
use Rattle.table_schema.specs.declared.schema.Schema.{Schema}
use Rattle.row_keys.specs.declared.position.Position.{Position}
use Rattle.row_keys.specs.declared.row_key.RowKey.{RowKey}
use Rattle.row_keys.specs.Keys.{position_order}
use Rattle.row_keys.specs.Rows.{Rows, Entries, table_entries, local_entries}
use Rattle.paging.specs.Room.{has_stopped}
use Rattle.paging.specs.Rows.{rows_after}
use Rattle.page_ranges.specs.Span.{is_inside}
use Rattle.table_model.specs.Catalog.{is_after}
use Rattle.cell_model.specs.declared.key.CellKey.{CellKey}
use Rattle.cell_model.specs.declared.key.CellKey.TheVariants.{Item, Row}
use Rattle.cell_model.specs.declared.catalog.Catalog.{Catalog}
use Rattle.cell_model.specs.declared.catalog.CatalogTable.{CatalogTable}
use Rattle.cell_model.specs.declared.question.PageRoom.{PageRoom}
use Rattle.cell_model.specs.declared.question.PageSource.{PageSource}
use Rattle.cell_model.specs.declared.question.PageSource.TheVariants as source
use Rattle.cell_model.specs.declared.question.PageQuestion.{PageQuestion}
use Rattle.cell_model.specs.declared.question.CatalogQuestion.{CatalogQuestion}
use Rattle.cell_model.specs.declared.question.CatalogQuestion.TheVariants.{Look, Names, Page}
use Rattle.cell_model.specs.declared.answer.PageRow.{PageRow}
use Rattle.cell_model.specs.declared.answer.CatalogAnswer.{CatalogAnswer}
use Rattle.cell_model.specs.declared.answer.CatalogAnswer.TheVariants as answer
use Rattle.cell_model.specs.Catalogs.{numbered, named, index_numbers}

-- what a cell keeps: items, or rows of indexes, in the order of their keys
abbrev pub CellRows : Type 0
CellRows = List (CellKey × Attributes)

-- ---- whose rows

-- a cell's row, where it is an item of the table
abbrev pub item_in : ℕ → CellKey × Attributes → Option (RowKey × Attributes)
item_in table (Item key, item) = if nat_eq key.table table then Some (key.key, item) else None
item_in table (Row key, item) = None

-- the items of a table
abbrev pub items_of : ℕ → CellRows → Rows
items_of table rows = filter_map (item_in table) rows

-- a cell's row, where it is a row of the index
abbrev pub entry_in : ℕ → ℕ → CellKey × Attributes → Option (Position × Attributes)
entry_in table index (Item key, row) = None
entry_in table index (Row key, row) = if nat_eq key.table table && nat_eq key.index index then Some (key.at, row) else None

abbrev pub local_rows : Schema → Option LocalIndex → Rows → Entries
local_rows schema None rows = []
local_rows schema (Some index) rows = local_entries schema index rows

-- the rows of a source in a cell, in the order of their keys there
abbrev pub source_rows : CatalogTable → PageSource → CellRows → Entries
source_rows table source.Table rows = table_entries (items_of table.number rows)
source_rows table (source.Local place) rows =
    local_rows table.schema (slice_get table.schema.locals place) (items_of table.number rows)
source_rows table (source.Global index) rows = filter_map (entry_in table.number index) rows

abbrev pub rows_in : Option CatalogTable → PageSource → CellRows → Entries
rows_in None source rows = []
rows_in (Some table) source rows = source_rows table source rows

-- the rows that a page is asked for, as it meets them
abbrev pub asked_rows : Catalog → PageQuestion → CellRows → Entries
asked_rows catalog page rows =
    rows_after position_order page.forward page.after
    (filter (λ entry. is_inside page.span entry.0.read) (rows_in (numbered catalog.tables page.table) page.source rows))

-- ---- how many of them

-- the page has as many rows or bytes as it may
abbrev pub is_over : PageRoom → Bool
is_over room = has_stopped (record { rows = room.rows; bytes = room.bytes })

-- what a page may still take after one more row
abbrev pub room_behind : PageRoom → Attributes → PageRoom
room_behind room item = record { rows = option_map (λ most. most - 1) room.rows; bytes = room.bytes - item_size item }

-- the rows that a page takes: up to the one with which it is over
abbrev pub taken : PageRoom → Entries → Entries
taken room [] = []
taken room (entry ∷ entries) = if is_over room then [] else entry ∷ taken (room_behind room entry.1) entries

-- what it may still take then
abbrev pub room_after : PageRoom → Entries → PageRoom
room_after room entries = fold (λ left entry. room_behind left entry.1) room entries

abbrev pub page_row : Position × Attributes → PageRow
page_row entry = record { at = entry.0; item = entry.1 }

-- what is told of a page that has taken these rows
abbrev pub part_of : PageRoom → Entries → CatalogAnswer
part_of room entries = answer.Part (map page_row entries) (room_after room entries) (is_over (room_after room entries))

abbrev pub page_part : Catalog → CellRows → PageQuestion → CatalogAnswer
page_part catalog rows page = part_of page.room (taken page.room (asked_rows catalog page rows))

-- ---- where a page is answered

-- the cell that a page names
abbrev pub page_cell : ℕ → CatalogQuestion → ℕ
page_cell partitions (Page page) = page.cell % partitions
page_cell partitions _ = 0

abbrev pub index_number : PageSource → Option ℕ
index_number (source.Global index) = Some index
index_number _ = None

-- the number of the global index that a page is of
abbrev pub page_index : CatalogQuestion → Option ℕ
page_index (Page page) = index_number page.source
page_index _ = None

abbrev pub has_source : CatalogTable → PageSource → Bool
has_source table source.Table = true
has_source table (source.Local place) = nat_lt place (length table.schema.locals)
has_source table (source.Global index) = list_any (λ number. nat_eq number index) (index_numbers table)

abbrev pub has_source_in : Option CatalogTable → PageSource → Bool
has_source_in None source = false
has_source_in (Some table) source = has_source table source

-- the catalog has the page's table and index
abbrev pub serves : Catalog → CatalogQuestion → Bool
serves catalog (Page page) = has_source_in (numbered catalog.tables page.table) page.source
serves catalog _ = true

-- ---- what is told

abbrev pub told_table : Option CatalogTable → CatalogAnswer
told_table None = answer.NoTable
told_table (Some table) = answer.Table table.number table.schema (index_numbers table)

-- the first of some names, and whether more follow
abbrev pub name_list : ℕ → List (List ℕ) → CatalogAnswer
name_list limit names = answer.NameList (take limit names) (nat_lt limit (length names))

-- the answer to a question, by the rows of the cell
abbrev pub told_of : Catalog → CellRows → CatalogQuestion → CatalogAnswer
told_of catalog rows (Look name) = told_table (named catalog.tables name)
told_of catalog rows (Names after limit) = name_list limit (filter (is_after after) (map (λ table. table.schema.name) catalog.tables))
told_of catalog rows (Page page) = page_part catalog rows page
