-- The cells of real tables may be lent to several threads, and a pass may go from thread to thread: type by type, so that each search is
-- short.
use denote.Param.Send.{IsSend, IsSync, sendable}
use Rattle.std.proofs.Crossing as owners
use Rattle.std.proofs.MapsCrossing as maps
use Rattle.attr_value.proofs.value.Elements.TheLaws.TheKnot as values
use Rattle.expr_words.proofs.tree.Condition.TheLaws.TheKnot as conditions
use Rattle.expr_words.proofs.tree.Term.TheLaws.TheKnot as terms
use Rattle.base_types.proofs.text.Text.TheSendSync as text
use Rattle.base_types.proofs.binary.Bytes.TheSendSync as bytes
use Rattle.number38.proofs.number.Number.TheSendSync as number
use Rattle.row_keys.proofs.position.Position.TheSendSync as position
use Rattle.row_keys.proofs.row_key.RowKey.TheSendSync as row_key
use Rattle.table_schema.proofs.schema.Schema.TheSendSync as schema
use Rattle.cluster.proofs.cluster.Cluster.TheSendSync as cluster
use Rattle.attr_value.specs.contracts.value.Item as Item
use Rattle.attr_value.specs.contracts.value.Value as Value
use Rattle.attr_value.specs.contracts.shared_item.SharedItem as SharedItem
use Rattle.expr_words.specs.contracts.tree.Condition as Condition
use Rattle.expr_parse.specs.contracts.tree.Update as Update
use Rattle.cell_model.specs.contracts.key.CellKey as CellKey
use Rattle.cell_model.specs.contracts.catalog.Catalog as Catalog
use Rattle.cell_model.specs.contracts.action.StatedChange as StatedChange
use Rattle.cell_model.specs.contracts.action.Statement as Statement
use Rattle.cell_model.specs.contracts.action.KeyedAction as KeyedAction
use Rattle.cell_entries.specs.contracts.entry.LocalEntry as LocalEntry
use Rattle.table_cells.specs.contracts.cells.TableCells as TableCells

-- ---- what items and actions hold

pub item_send : IsSend Item.the_row
item_send = search (text.the_send, bytes.the_send, number.the_send, maps.crosses, owners.crosses, values.crosses, sendable) depth 60 fits 20000

pub item_sync : IsSync Item.the_row
item_sync = search (text.the_sync, bytes.the_sync, number.the_sync, maps.crosses, owners.crosses, values.crosses, sendable) depth 60 fits 20000

pub shared_item_send : IsSend SharedItem.the_row
shared_item_send = search (item_send, item_sync, owners.crosses, sendable) depth 60 fits 20000

pub shared_item_sync : IsSync SharedItem.the_row
shared_item_sync = search (item_send, item_sync, owners.crosses, sendable) depth 60 fits 20000

pub value_send : IsSend (Value.the_field).row
value_send = search (item_send, text.the_send, bytes.the_send, number.the_send, maps.crosses, owners.crosses, values.crosses, sendable) depth 60 fits 20000

pub value_sync : IsSync (Value.the_field).row
value_sync = search (item_sync, text.the_sync, bytes.the_sync, number.the_sync, maps.crosses, owners.crosses, values.crosses, sendable) depth 60 fits 20000

pub condition_send : IsSend (Condition.the_field).row
condition_send = search (text.the_send, maps.crosses, owners.crosses, conditions.crosses, sendable) depth 60 fits 20000

pub condition_sync : IsSync (Condition.the_field).row
condition_sync = search (text.the_sync, maps.crosses, owners.crosses, conditions.crosses, sendable) depth 60 fits 20000

pub update_send : IsSend (Update.the_field).row
update_send = search (text.the_send, maps.crosses, owners.crosses, terms.crosses, sendable) depth 60 fits 20000

pub update_sync : IsSync (Update.the_field).row
update_sync = search (text.the_sync, maps.crosses, owners.crosses, terms.crosses, sendable) depth 60 fits 20000

pub change_send : IsSend (StatedChange.the_field).row
change_send = search (item_send, update_send, owners.crosses, sendable) depth 60 fits 20000

pub change_sync : IsSync (StatedChange.the_field).row
change_sync = search (item_sync, update_sync, owners.crosses, sendable) depth 60 fits 20000

pub statement_send : IsSend (Statement.the_field).row
statement_send = search (change_send, condition_send, value_send, text.the_send, owners.crosses, sendable) depth 60 fits 20000

pub statement_sync : IsSync (Statement.the_field).row
statement_sync = search (change_sync, condition_sync, value_sync, text.the_sync, owners.crosses, sendable) depth 60 fits 20000

-- ---- what cells hold

pub key_send : IsSend (CellKey.the_field).row
key_send = search (row_key.the_field_send, position.the_field_send, owners.crosses, sendable) depth 60 fits 20000

pub key_sync : IsSync (CellKey.the_field).row
key_sync = search (row_key.the_field_sync, position.the_field_sync, owners.crosses, sendable) depth 60 fits 20000

pub catalog_send : IsSend (Catalog.the_field).row
catalog_send = search (schema.the_field_send, owners.crosses, sendable) depth 60 fits 20000

pub catalog_sync : IsSync (Catalog.the_field).row
catalog_sync = search (schema.the_field_sync, owners.crosses, sendable) depth 60 fits 20000

pub entry_send : IsSend (LocalEntry.the_field).row
entry_send = search (position.the_field_send, owners.crosses, sendable) depth 60 fits 20000

pub entry_sync : IsSync (LocalEntry.the_field).row
entry_sync = search (position.the_field_sync, owners.crosses, sendable) depth 60 fits 20000

pub keyed_send : IsSend KeyedAction.the_row
keyed_send = search (key_send, statement_send, owners.crosses, sendable) depth 60 fits 20000

pub keyed_sync : IsSync KeyedAction.the_row
keyed_sync = search (key_sync, statement_sync, owners.crosses, sendable) depth 60 fits 20000

-- ---- the cells

pub cells_sync : IsSync (TableCells.the_field).row
cells_sync = search (cluster.the_sync, key_send, key_sync, shared_item_send, shared_item_sync, catalog_send, catalog_sync, entry_send, entry_sync, keyed_send, keyed_sync, maps.crosses, owners.crosses, sendable) depth 60 fits 20000
