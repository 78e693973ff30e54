-- Rows that stand at the keys of their items.
use Rattle.std.specs.Prelude.{◌≡◌, Option, None, Some, Result, Ok, Err}
use Rattle.std.specs.List.{AllByRecursion}
use Rattle.attr_value.specs.Tree.{Attributes}
use Rattle.item_keys.specs.ItemKey.{key_in}
use Rattle.item_keys.specs.declared.fault.KeyFault.{KeyFault}
use Rattle.item_keys.specs.declared.key.Key.{Key}
use Rattle.table_schema.specs.declared.keys.KeyNames.{KeyNames}
use Rattle.table_schema.specs.declared.schema.Schema.{Schema}
use Rattle.row_keys.specs.declared.row_key.RowKey.{RowKey}
use Rattle.row_keys.specs.Keys.{row_key}
use Rattle.row_keys.specs.Rows.{Rows}

-- the key of the row, where the item has one
abbrev pub key_if : Result Key KeyFault → Option RowKey
key_if (Ok key) = Some (row_key key)
key_if (Err fault) = None

-- this is the item's key under these names
abbrev pub IsAtKey : Schema → KeyNames → RowKey → Attributes → Type 0
IsAtKey schema keys at item = key_if (key_in schema keys item) ≡ Some at

-- each row of a table stands at the key of its item
abbrev pub AreAtKeys : Schema → Rows → Type 0
AreAtKeys schema rows = AllByRecursion (λ row. IsAtKey schema schema.keys row.0 row.1) rows
