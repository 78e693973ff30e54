-- A client may go from thread to thread.
use denote.Param.Send.{IsSend, sendable}
use Rattle.std.proofs.Crossing as owners
use Rattle.std.proofs.MapsCrossing as maps
use Rattle.base_types.proofs.text.Text.TheSendSync as text
use Rattle.table_schema.proofs.schema.Schema.TheSendSync as schema
use Rattle.turnstile.proofs.pass.Pass.TheSendSync as pass
use Rattle.partition.proofs.cell.Partition.TheSendSync as partition
use Rattle.control_cell.proofs.cell.ControlCell.TheSendSync as control
use Rattle.table_cells.proofs.Crossings.{shared_item_send, key_send, catalog_send, entry_send, keyed_send}
use Rattle.cell_asks.specs.contracts.looks.Looks as Looks
use Rattle.table_load.specs.contracts.client.Client as Client
use Rattle.table_load.specs.contracts.end.LoadFault as LoadFault
use Rattle.table_load.specs.contracts.session.Session as Session

looks_send : IsSend (Looks.the_field).row
looks_send = search (text.the_send, schema.the_field_send, maps.crosses, owners.crosses, sendable) depth 60 fits 20000

pub session_send : IsSend Session.the_row
session_send = search (looks_send, pass.the_send, partition.the_send, control.the_send, key_send, shared_item_send, catalog_send, entry_send, keyed_send, maps.crosses, owners.crosses, sendable) depth 60 fits 20000

pub fault_send : IsSend (LoadFault.the_field).row
fault_send = search (owners.crosses, sendable) depth 60 fits 20000

pub client_send : IsSend (Client.the_field).row
client_send = search (session_send, fault_send, owners.crosses, sendable) depth 60 fits 20000
