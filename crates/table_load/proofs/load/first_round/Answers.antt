use denote.Param.Send.{sendable}
use Rattle.std.proofs.Common.{arith}
use Rattle.std.proofs.Crossing as owners
use Rattle.pass_sessions.proofs.Meeting.{each_by_recursion}
use Rattle.table_cells.proofs.Crossings.{cells_sync}
use Rattle.table_load.proofs.Crossings.{client_send}
use Rattle.table_load.proofs.Seen.{all_rest, all_sent, none_stopped, zipped}
use Rattle.table_load.proofs.load.first_round.Goals as goal

pub work_each-requires-send-X : goal.work_each-requires-send-X
work_each-requires-send-X g c κs within = search (client_send, owners.crosses, sendable) depth 60 fits 20000

pub work_each-requires-sync-C : goal.work_each-requires-sync-C
work_each-requires-sync-C g c κs within = search (cells_sync, owners.crosses, sendable) depth 60 fits 20000

pub returns-clause-ok : goal.returns-clause-ok
returns-clause-ok g c =
    all_sent _ _ _ _ (zipped _ _ _ (omega (arith, c.work_each.auto.elements)) c.work_each.ensures.does) c.all_went.result c.all_went.ensures.ok

pub returns-clause-unstopped : goal.returns-clause-unstopped
returns-clause-unstopped g c =
    none_stopped _ _ _ _ (zipped _ _ _ (omega (arith, c.work_each.auto.elements)) c.work_each.ensures.does) c.all_went.result c.all_went.ensures.err

pub returns-clause-rest : goal.returns-clause-rest
returns-clause-rest g c = all_rest _ _ c.work_each.new.elements (each_by_recursion _ c.work_each.new.elements c.work_each.ensures.suits)
