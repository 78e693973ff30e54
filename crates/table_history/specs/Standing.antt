-- The sequential databases that stand for what a history makes of tables, and for what readers are shown then.
use Rattle.std.specs.Prelude.{◌≡◌, ℕ, false, List, [], ◌∷◌, ◌++◌, Option, reverse}
use Rattle.std.specs.List.{AllZip}
use Rattle.std.specs.List.Sorted.{IsStrictlySortedBy}
use Rattle.std.specs.Map.{keys_of}
use Rattle.attr_value.specs.Tree.{Attributes}
use Rattle.row_keys.specs.declared.row_key.RowKey.{RowKey}
use Rattle.row_keys.specs.Keys.{row_order}
use Rattle.row_keys.specs.Rows.{item_at}
use Rattle.table_model.specs.Database.{Database, Table}
use Rattle.txn_core.specs.Legal.{IsLegal}
use Rattle.txn_core.specs.Laws.{catalog_by, item_by, shown_by, enters_order}
use Rattle.cell_model.specs.declared.key.CellKey.{CellKey}
use Rattle.cell_model.specs.declared.key.CellKey.TheVariants.{Item}
use Rattle.cell_model.specs.declared.catalog.Catalog.{Catalog}
use Rattle.cell_model.specs.declared.catalog.CatalogTable.{CatalogTable}
use Rattle.cell_model.specs.Service.{service}
use Rattle.table_history.specs.Entries.{TableEvent}

-- a table of a database, under its name, is this one of the catalog: it has its schema, and at each key the item that is
-- given, its rows in the order of their keys; its number is free
pub record IsTableOf (item : CellKey → Option Attributes) (table : CatalogTable) (entry : List ℕ × Table) : Type 0 where
  pub name : entry.0 ≡ table.schema.name
  pub schema : entry.1.schema ≡ table.schema
  pub ordered : IsStrictlySortedBy row_order (keys_of entry.1.rows)
  pub rows : (key : RowKey) → item_at entry.1.rows key ≡ item (Item (record { table = table.number; key = key }))

-- a database has exactly the tables of the catalog, with these items; its tokens, and its count of tables, are free
abbrev pub StandsFor : Catalog → (CellKey → Option Attributes) → Database → Type 0
StandsFor catalog item db = AllZip (IsTableOf item) catalog.tables db.tables

-- a database has what the one order makes of these entries, of which the oldest stands first
abbrev pub HasTables : ℕ → List TableEvent → Database → Type 0
HasTables n log db = StandsFor (catalog_by (service n) (reverse log)) (item_by (service n) (reverse log)) db

-- a database has what readers are shown after these entries
abbrev pub HasShown : ℕ → List TableEvent → Database → Type 0
HasShown n log db = StandsFor (catalog_by (service n) (reverse log)) (shown_by (service n) (reverse log)) db

-- ---- laws

-- some database has the tables, and some has what is shown
pub record SomeStand (n : ℕ) (log : List TableEvent) : Type 0 where
  pub tables : (db : Database) × HasTables n log db
  pub shown : (db : Database) × HasShown n log db

abbrev pub TablesStand : ℕ → Type 0
TablesStand n = (log : List TableEvent) → IsLegal (service n) (reverse log) → SomeStand n log

-- two tables under one name, with one schema and the same rows
pub record AreOneTable (entry other : List ℕ × Table) : Type 0 where
  pub name : entry.0 ≡ other.0
  pub schema : entry.1.schema ≡ other.1.schema
  pub rows : entry.1.rows ≡ other.1.rows

-- databases that stand for the same have the same tables
abbrev pub StandAlike : Type 0
StandAlike =
    (catalog : Catalog) (item : CellKey → Option Attributes) (db other : Database) → StandsFor catalog item db → StandsFor catalog item other
    → AllZip AreOneTable db.tables other.tables

-- an entry that puts nothing into the one order leaves the tables: a read, a refusal, what is held, a message of the feed
abbrev pub OthersLeaveTables : ℕ → Type 0
OthersLeaveTables n =
    (log : List TableEvent) (e : TableEvent) → enters_order e.message e.answer ≡ false → (db : Database) → HasTables n log db → HasTables n (log ++ e ∷ []) db
