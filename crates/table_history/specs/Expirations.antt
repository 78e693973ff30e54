-- Expirations remove of the databases that have a history's tables the rows of their keys.
use Rattle.std.specs.Prelude.{◌≡◌, ℕ, ◌/◌, true, List, [], ◌∷◌, ◌++◌, None, Some, reverse}
use Rattle.attr_value.specs.Tree.{Attributes}
use Rattle.item_keys.specs.declared.key.Key.{Key}
use Rattle.row_keys.specs.Expiry.{is_expired}
use Rattle.row_keys.specs.Keys.{row_key}
use Rattle.row_keys.specs.Rows.{item_at}
use Rattle.table_model.specs.Database.{Database, Table, table_named, with_row}
use Rattle.txn_core.specs.declared.message.Message.{Message}
use Rattle.txn_core.specs.declared.answer.Answer.{Answer}
use Rattle.txn_core.specs.Legal.{IsLegal}
use Rattle.txn_core.specs.Laws.{catalog_by}
use Rattle.cell_model.specs.declared.catalog.CatalogTable.{CatalogTable}
use Rattle.cell_model.specs.Actions.{ItemAction}
use Rattle.cell_model.specs.Catalogs.{numbered}
use Rattle.cell_model.specs.Service.{service}
use Rattle.table_history.specs.Entries.{TableEvent}
use Rattle.table_history.specs.Standing.{HasTables}
use Rattle.table_history.specs.WriteEffects.{item_key}

-- the database has the table, and this item at the key, which was expired at the second of the entry; without its row it has
-- the tables with the entry
pub record RemovesRow (n : ℕ) (log : List TableEvent) (e : TableEvent) (t : CatalogTable) (key : Key) (old : Attributes) (db : Database) : Type 0 where
  pub table : Table
  pub named : table_named db t.schema.name ≡ Some table
  pub was : item_at table.rows (row_key key) ≡ Some old
  pub past : is_expired table.schema.ttl old (e.moment / 1000000) ≡ true
  pub left : HasTables n (log ++ e ∷ []) (with_row db t.schema.name table (row_key key) None)

-- the entry is an expiration, of an item of a table that is there, and removed what it tells
abbrev pub ExpirationsRemoveRows : ℕ → Type 0
ExpirationsRemoveRows n =
    (log : List TableEvent) (e : TableEvent) → IsLegal (service n) (reverse (log ++ e ∷ []))
    → (table : CatalogTable) → numbered (catalog_by (service n) (reverse log)).tables table.number ≡ Some table
    → (key : Key) (action : ItemAction) → action.key ≡ item_key table key → e.message ≡ Message.Expire action
    → (old : Attributes) → e.answer ≡ Answer.Expired old
    → (db : Database) → HasTables n log db → RemovesRow n log e table key old db
