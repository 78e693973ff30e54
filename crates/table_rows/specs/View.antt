-- What a table shows: its schema, its rows, and the changes that are prepared.
use Rattle.std.specs.Prelude.{List, [], ◌∷◌, Bool}
use Rattle.std.specs.List.{list_any}
use Rattle.std.specs.Borrow.{Bor}
use Rattle.std.specs.BTreeMap.{is_at}
use Rattle.std.specs.BTreeMap.Range.{entries_between}
use Rattle.std.specs.Range.Bound.{bound_map}
use Rattle.std.specs.declared.ops.Bound.{Bound}
use Rattle.table_schema.specs.declared.keys.KeyNames.{KeyNames}
use Rattle.table_schema.specs.declared.schema.Schema.{Schema}
use Rattle.row_keys.specs.declared.position.Position.{Position}
use Rattle.row_keys.specs.declared.row_key.RowKey.{RowKey}
use Rattle.row_keys.specs.Keys.{position_order, row_order}
use Rattle.row_keys.specs.Rows.{Entries, Rows, index_of, with_item}
use Rattle.table_rows.specs.declared.change.RowChange.{RowChange}

pub record TableView : Type 0 where
  pub schema : Schema
  pub rows : Rows
  pub pending : List RowChange

-- a change of the item at this key is prepared
abbrev pub is_pending : List RowChange → RowKey → Bool
is_pending changes key = list_any (λ change. is_at (row_order key) change.key) changes

-- the rows with these changes made, which are at keys that differ
abbrev pub committed : Rows → List RowChange → Rows
committed rows [] = rows
committed rows (change ∷ changes) = with_item (committed rows changes) change.key change.new

-- the rows of the index with these key names, between two ends that are lent
abbrev pub index_between : TableView → KeyNames → Bound (Bor Position) → Bound (Bor Position) → Entries
index_between table keys low high =
    entries_between position_order (bound_map (λ end. end.now) low) (bound_map (λ end. end.now) high)
    (index_of table.schema keys table.rows)
