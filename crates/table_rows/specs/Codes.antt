-- How what a table and its slots show is stored in the logic's own tree of numbers. Nothing that a caller relies on hangs on it.
use Rattle.std.specs.Prelude.{List, refl}
use Rattle.std.specs.Coded.{Coded, code_by, coded_list, coded_option, coded×}
use Rattle.attr_value.specs.Codes.{attributes_code}
use Rattle.table_schema.specs.declared.schema.Schema.{Schema}
use Rattle.table_schema.specs.contracts.schema.Schema.{the_row as schema_row}
use Rattle.row_keys.specs.contracts.row_key.RowKey.{the_row as key_row}
use Rattle.row_keys.specs.contracts.position.Position.{the_row as position_row}
use Rattle.row_keys.specs.Rows.{Rows, Entries}
use Rattle.table_rows.specs.declared.change.RowChange.{RowChange}
use Rattle.table_rows.specs.contracts.change.RowChange.{the_row as change_row}
use Rattle.table_rows.specs.View.{TableView}
use Rattle.table_rows.specs.Slots.{SlotList}

abbrev pub slots_code : Coded SlotList
slots_code = coded_list (coded× key_row.coded (coded_option attributes_code))

abbrev pub rows_code : Coded Rows
rows_code = coded_list (coded× key_row.coded attributes_code)

abbrev pub table_code : Coded TableView
table_code =
    code_by (Schema × (Rows × List RowChange))
    (coded× schema_row.coded (coded× rows_code (coded_list change_row.coded)))
    (λ t. (t.schema, (t.rows, t.pending))) (λ p. record { schema = p.0; rows = p.1.0; pending = p.1.1 }) (λ _. refl)

abbrev pub entries_code : Coded Entries
entries_code = coded_list (coded× position_row.coded attributes_code)
