-- An item entered into an index.
use Rattle.std.specs.Prelude.{Option, None, Some}
use Rattle.attr_value.specs.Tree.{Attributes}
use Rattle.table_schema.specs.declared.keys.KeyNames.{KeyNames}
use Rattle.table_schema.specs.declared.schema.Schema.{Schema}
use Rattle.row_keys.specs.declared.row_key.RowKey.{RowKey}
use Rattle.row_keys.specs.Rows.{Entries, position_in, entered}

-- the rows of an index with one more, where there is an item
abbrev pub entered_if : Schema → KeyNames → Option (RowKey × Attributes) → Entries → Entries
entered_if schema keys None entries = entries
entered_if schema keys (Some row) entries = entered (position_in schema keys row.0 row.1) row.1 entries
