-- A session may go from thread to thread, and the service may be lent to several.
use denote.Param.Send.{IsSend, IsSync, sendable}
use Rattle.std.proofs.Crossing as owners
use Rattle.std.proofs.MapsCrossing as maps
use Rattle.base_types.proofs.text.Text.TheSendSync as text
use Rattle.table_schema.proofs.schema.Schema.TheSendSync as schema
use Rattle.turnstile.proofs.pass.Pass.TheSendSync as pass
use Rattle.partition.proofs.cell.Partition.TheSendSync as partition
use Rattle.control_cell.proofs.cell.ControlCell.TheSendSync as control
use Rattle.table_cells.proofs.Crossings.{shared_item_send, key_send, catalog_send, entry_send, keyed_send, cells_sync}
use Rattle.cell_helpers.proofs.Crossings.{hints_send}
use Rattle.cell_asks.specs.contracts.looks.Looks as Looks
use Rattle.cell_service.specs.contracts.session.Session as Session
use Rattle.cell_service.specs.contracts.service.CellService as CellService

looks_send : IsSend (Looks.the_field).row
looks_send = search (text.the_send, schema.the_field_send, maps.crosses, owners.crosses, sendable) depth 60 fits 20000

pub session_send : IsSend Session.the_row
session_send = search (looks_send, hints_send, pass.the_send, partition.the_send, control.the_send, key_send, shared_item_send, catalog_send, entry_send, keyed_send, maps.crosses, owners.crosses, sendable) depth 60 fits 20000

pub service_sync : IsSync CellService.the_row
service_sync = search (cells_sync, owners.crosses, sendable) depth 60 fits 20000
