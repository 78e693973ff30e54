-- The rows that items have in global indexes (Developer Guide: Global secondary indexes).
use Rattle.std.specs.Prelude.{ℕ, List, [], Option, None, Some, option_map}
use Rattle.attr_value.specs.Tree.{Attributes}
use Rattle.index_feed.specs.declared.change.Row.{Row as FeedRow}
use Rattle.table_schema.specs.declared.index.GlobalIndex.{GlobalIndex}
use Rattle.table_schema.specs.declared.schema.Schema.{Schema}
use Rattle.item_keys.specs.Row.{only, is_kept}
use Rattle.row_keys.specs.declared.position.Position.{Position}
use Rattle.row_keys.specs.Rows.{position_in}
use Rattle.cell_model.specs.declared.key.ItemKey.{ItemKey}
use Rattle.cell_model.specs.declared.key.CellKey.{CellKey}
use Rattle.cell_model.specs.declared.key.CellKey.TheVariants.{Item, Row}
use Rattle.cell_model.specs.declared.catalog.Catalog.{Catalog}
use Rattle.cell_model.specs.declared.catalog.CatalogTable.{CatalogTable}
use Rattle.cell_model.specs.Keys.{table_of}
use Rattle.cell_model.specs.Catalogs.{numbered, numbered_indexes, index_numbers, index_at}

-- the row of an item at its position in an index: what the index keeps of the item
abbrev pub row_at : ItemKey → ℕ → Schema → GlobalIndex → Attributes → Position → FeedRow CellKey Attributes
row_at key number schema index item at = record {
  key = Row (record { table = key.table; index = number; at = at });
  content = only (is_kept schema index) item;
}

-- none where the item does not have the index's key
abbrev pub row_under : ItemKey → ℕ → Schema → GlobalIndex → Attributes → Option (FeedRow CellKey Attributes)
row_under key number schema index item =
    option_map (row_at key number schema index item) (position_in schema index.keys key.key item)

abbrev pub row_in : ItemKey → ℕ → Schema → Option GlobalIndex → Attributes → Option (FeedRow CellKey Attributes)
row_in key number schema None item = None
row_in key number schema (Some index) item = row_under key number schema index item

abbrev pub row_if : Option CatalogTable → ItemKey → ℕ → Attributes → Option (FeedRow CellKey Attributes)
row_if None key number item = None
row_if (Some table) key number item = row_in key number table.schema (index_at number (numbered_indexes table)) item

-- an item's row in the index of a number, where it has one; rows of indexes have none
abbrev pub row_of : Catalog → ℕ → CellKey → Attributes → Option (FeedRow CellKey Attributes)
row_of catalog number (Item key) item = row_if (numbered catalog.tables key.table) key number item
row_of catalog number (Row key) item = None

abbrev pub numbers_in : Option CatalogTable → List ℕ
numbers_in None = []
numbers_in (Some table) = index_numbers table

-- the numbers of the global indexes of the table of a number
abbrev pub numbers_at : Catalog → ℕ → List ℕ
numbers_at catalog number = numbers_in (numbered catalog.tables number)

-- and of the key's table
abbrev pub indexes_of : Catalog → CellKey → List ℕ
indexes_of catalog key = numbers_at catalog (table_of key)
