-- Hints and helpers may go from thread to thread.
use denote.Param.Send.{IsSend, sendable}
use Rattle.std.proofs.Crossing as owners
use Rattle.std.proofs.MapsCrossing as maps
use Rattle.turnstile.proofs.pass.Pass.TheSendSync as pass
use Rattle.partition.proofs.cell.Partition.TheSendSync as partition
use Rattle.control_cell.proofs.cell.ControlCell.TheSendSync as control
use Rattle.crossbeam_channel.proofs.channel.Sender.TheSendSync as sender
use Rattle.crossbeam_channel.proofs.channel.Receiver.TheSendSync as receiver
use Rattle.table_cells.proofs.Crossings.{shared_item_send, key_send, catalog_send, entry_send, keyed_send}
use Rattle.cell_helpers.specs.contracts.hints.Hints as Hints
use Rattle.cell_helpers.specs.contracts.hints.Calls as Calls
use Rattle.cell_helpers.specs.contracts.helper.Helper as Helper
use Rattle.cell_helpers.specs.contracts.helper.Duty as Duty

pub hints_send : IsSend Hints.the_row
hints_send = search (sender.the_send, owners.crosses, sendable) depth 60 fits 20000

calls_send : IsSend (Calls.the_field).row
calls_send = search (receiver.the_send, owners.crosses, sendable) depth 60 fits 20000

duty_send : IsSend (Duty.the_field).row
duty_send = search (receiver.the_send, calls_send, owners.crosses, sendable) depth 60 fits 20000

pub helper_send : IsSend (Helper.the_field).row
helper_send = search (pass.the_send, partition.the_send, control.the_send, duty_send, key_send, shared_item_send, catalog_send, entry_send, keyed_send, maps.crosses, owners.crosses, sendable) depth 60 fits 20000
