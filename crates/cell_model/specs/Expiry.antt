-- When items of these tables are expired.
use Rattle.std.specs.Prelude.{ℕ, ◌/◌, Bool, false, Option, None, Some}
use Rattle.attr_value.specs.Tree.{Attributes}
use Rattle.row_keys.specs.Expiry.{is_expired}
use Rattle.cell_model.specs.declared.key.CellKey.{CellKey}
use Rattle.cell_model.specs.declared.catalog.Catalog.{Catalog}
use Rattle.cell_model.specs.declared.catalog.CatalogTable.{CatalogTable}
use Rattle.cell_model.specs.Catalogs.{numbered}
use Rattle.cell_model.specs.Keys.{table_of}

-- an item of a table, at a moment in microseconds; none expires where there is no table
abbrev pub expires_in : Option CatalogTable → Attributes → ℕ → Bool
expires_in None item moment = false
expires_in (Some table) item moment = is_expired table.schema.ttl item (moment / 1000000)

-- [Expired]: by the time to live of the key's table
abbrev pub is_expired_at : Catalog → CellKey → Attributes → ℕ → Bool
is_expired_at catalog key item moment = expires_in (numbered catalog.tables (table_of key)) item moment
