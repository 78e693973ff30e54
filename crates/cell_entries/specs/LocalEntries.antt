-- Where items stand in the local indexes of their tables (Developer Guide: Local secondary indexes).
use Rattle.std.specs.Prelude.{◌≡◌, ℕ, ◌+◌, true, false, List, [], ◌∷◌, ◌++◌, Option, None, Some}
use Rattle.std.specs.Ordering.{nat_cmp, ordering_then}
use Rattle.std.specs.List.{list_any}
use Rattle.std.specs.BTreeMap.{is_at}
use Rattle.std.specs.declared.cmp.Ordering.{Ordering}
use Rattle.attr_value.specs.Tree.{Attributes}
use Rattle.table_schema.specs.declared.index.LocalIndex.{LocalIndex}
use Rattle.table_schema.specs.declared.schema.Schema.{Schema}
use Rattle.row_keys.specs.declared.position.Position.{Position}
use Rattle.row_keys.specs.Keys.{position_order}
use Rattle.row_keys.specs.Rows.{position_in}
use Rattle.table_request.specs.declared.tables.TableUpdate.{TableUpdate}
use Rattle.cell_model.specs.declared.key.ItemKey.{ItemKey}
use Rattle.cell_model.specs.declared.key.CellKey.{CellKey}
use Rattle.cell_model.specs.declared.key.CellKey.TheVariants.{Item, Row}
use Rattle.cell_model.specs.declared.catalog.Catalog.{Catalog}
use Rattle.cell_model.specs.declared.catalog.CatalogTable.{CatalogTable}
use Rattle.cell_model.specs.declared.command.CatalogCommand.{CatalogCommand}
use Rattle.cell_model.specs.declared.command.CatalogCommand.TheVariants.{Change}
use Rattle.cell_model.specs.Catalogs.{has_table, numbered}
use Rattle.cell_model.specs.Commands.{catalog_after, is_number, waits_for}
use Rattle.cell_model.specs.Keys.{same_key, table_of}
use Rattle.cell_entries.specs.declared.entry.LocalEntry.{LocalEntry}

-- by table, by index, and then in the order of the index
abbrev pub entry_order : LocalEntry → LocalEntry → Ordering
entry_order a b =
    ordering_then (nat_cmp a.table b.table) (ordering_then (nat_cmp a.index b.index) (position_order a.at b.at))

-- an item's entry at its position in the local index of a place: none where it does not have the index's key
abbrev pub entry_at : ItemKey → ℕ → Option Position → List LocalEntry
entry_at key index None = []
entry_at key index (Some at) = record { table = key.table; index = index; at = at } ∷ []

-- in the local indexes from one place on
abbrev pub entries_from : Schema → List LocalIndex → ℕ → ItemKey → Attributes → List LocalEntry
entries_from schema [] place key item = []
entries_from schema (index ∷ rest) place key item =
    entry_at key place (position_in schema index.keys key.key item) ++ entries_from schema rest (place + 1) key item

abbrev pub entries_in : Option CatalogTable → ItemKey → Attributes → List LocalEntry
entries_in None key item = []
entries_in (Some table) key item = entries_from table.schema table.schema.locals 0 key item

-- an item's entries, one for each local index of its table whose key it has; rows of indexes have none
abbrev pub entries_of : Catalog → CellKey → Attributes → List LocalEntry
entries_of catalog (Item key) item = entries_in (numbered catalog.tables key.table) key item
entries_of catalog (Row key) item = []

-- the item that an entry names
abbrev pub item_of_entry : LocalEntry → CellKey
item_of_entry e = Item (record { table = e.table; key = e.at.item })

-- each entry that compares alike with one of an item's entries names the item
abbrev pub EntriesNameItems : (LocalEntry → LocalEntry → Ordering) → Type 0
EntriesNameItems cmp =
    (catalog : Catalog) (key : CellKey) (item : Attributes) (q : LocalEntry)
    → list_any (λ e. is_at (cmp e) q) (entries_of catalog key item) ≡ true → same_key key (item_of_entry q) ≡ true

-- a command leaves the entries of items of every table that it waits for nothing of
abbrev pub CommandsSpareEntries : Type 0
CommandsSpareEntries =
    (d : CatalogCommand) (moment : ℕ) (catalog : Catalog) (key : CellKey) (item : Attributes)
    → is_number (waits_for d catalog) (table_of key) ≡ false → has_table catalog (table_of key) ≡ true
    → entries_of (catalog_after d moment catalog) key item ≡ entries_of catalog key item

-- an update of a table (UpdateTable) leaves the entries of every item
abbrev pub UpdatesKeepEntries : Type 0
UpdatesKeepEntries =
    (name : List ℕ) (update : TableUpdate) (moment : ℕ) (catalog : Catalog) (key : CellKey) (item : Attributes)
    → entries_of (catalog_after (Change name update) moment catalog) key item ≡ entries_of catalog key item
