-- The rows of a table and of its indexes (Developer Guide: Core components; Working with secondary indexes).
use Rattle.std.specs.Prelude.{List, [], ◌∷◌, ◌++◌, map, Bool, Option, None, Some, Result, Ok, Err}
use Rattle.std.specs.List.{list_any}
use Rattle.std.specs.Map.{lookup, remove_entry}
use Rattle.std.specs.BTreeMap.{is_at, insert_entry}
use Rattle.attr_value.specs.Tree.{Attributes}
use Rattle.table_schema.specs.declared.keys.KeyNames.{KeyNames}
use Rattle.table_schema.specs.declared.schema.Schema.{Schema}
use Rattle.table_schema.specs.declared.index.LocalIndex.{LocalIndex}
use Rattle.table_schema.specs.declared.index.GlobalIndex.{GlobalIndex}
use Rattle.item_keys.specs.declared.fault.KeyFault.{KeyFault}
use Rattle.item_keys.specs.declared.key.Key.{Key}
use Rattle.item_keys.specs.ItemKey.{key_in}
use Rattle.item_keys.specs.Row.{only, is_kept}
use Rattle.item_keys.specs.Unfit.{is_unfit}
use Rattle.row_keys.specs.declared.position.Position.{Position}
use Rattle.row_keys.specs.declared.row_key.RowKey.{RowKey}
use Rattle.row_keys.specs.Keys.{row_key, row_order, position_order}

-- ---- the rows of a table: a map from key to item, in the order of a Scan

abbrev pub Rows : Type 0
Rows = List (RowKey × Attributes)

abbrev pub item_at : Rows → RowKey → Option Attributes
item_at rows key = lookup (is_at (row_order key)) rows

-- the rows with this item at a key, or with none
abbrev pub with_item : Rows → RowKey → Option Attributes → Rows
with_item rows key None = remove_entry (is_at (row_order key)) rows
with_item rows key (Some item) = insert_entry row_order rows key item

-- ---- what Query and Scan read: rows by their key in what is read, and by the key of the table

abbrev pub Entries : Type 0
Entries = List (Position × Attributes)

abbrev pub position : RowKey → RowKey → Position
position read item = record { read = read; item = item }

-- the rows of a table, read by the table's own key
abbrev pub table_entries : Rows → Entries
table_entries rows = map (λ row. (position row.0 row.0, row.1)) rows

-- where an item stands under an index's key: nowhere where it does not have that key
abbrev pub position_if : RowKey → Result Key KeyFault → Option Position
position_if item (Ok key) = Some (position (row_key key) item)
position_if item (Err fault) = None

abbrev pub position_in : Schema → KeyNames → RowKey → Attributes → Option Position
position_in schema keys key item = position_if key (key_in schema keys item)

-- the entries with one more, which goes to its place
abbrev pub entered : Option Position → Attributes → Entries → Entries
entered None item entries = entries
entered (Some at) item entries = insert_entry position_order entries at item

-- an index: the rows that have its key, in its order
abbrev pub index_of : Schema → KeyNames → Rows → Entries
index_of schema keys [] = []
index_of schema keys (row ∷ rows) = entered (position_in schema keys row.0 row.1) row.1 (index_of schema keys rows)

-- a local index shares the table's partition key, and has whole items
abbrev pub local_entries : Schema → LocalIndex → Rows → Entries
local_entries schema index rows = index_of schema index.keys rows

-- a global index has projected items
abbrev pub global_entries : Schema → GlobalIndex → Rows → Entries
global_entries schema index rows =
    map (λ entry. (entry.0, only (is_kept schema index) entry.1)) (index_of schema index.keys rows)

-- ---- what indexes refuse

-- the keys of all indexes, those of local ones first
abbrev pub index_keys : Schema → List KeyNames
index_keys schema = map (λ index. index.keys) schema.locals ++ map (λ index. index.keys) schema.globals

-- some index refuses the item
abbrev pub is_refused : Schema → Attributes → Bool
is_refused schema item = list_any (λ keys. is_unfit schema keys item) (index_keys schema)
