use Rattle.std.proofs.Common.{inl}
use Rattle.std.proofs.lemmas.Result.{IfOk-weaker, IfErr-weaker}
use Rattle.cell_asks.proofs.Trails.{none_asked_by}
use Rattle.item_calls.proofs.Trails.{wrote_alike, stops_alike}
use Rattle.item_calls.proofs.delete.delete_at.Goals as goal

pub returns-in-Ok-clause-ok : goal.returns-in-Ok-clause-ok
returns-in-Ok-clause-ok g c =
    IfOk-weaker c.write.result _ _
    (λ tried at. wrote_alike (g.C.Asks.count c.args.cells.now) (g.C.Asks.seen c.args.pass.now) _ _ c.delete_action.ensures _ _ c.in-Ok.ensures tried _ at)
    c.write.ensures.ok

pub returns-in-Ok-clause-err : goal.returns-in-Ok-clause-err
returns-in-Ok-clause-err g c =
    IfErr-weaker c.write.result _ _
    (λ why stops. stops_alike (g.C.Asks.count c.args.cells.now) (g.C.Asks.seen c.args.pass.now) _ _ c.delete_action.ensures why _ stops)
    c.write.ensures.err

pub returns-in-Err-clause-err : goal.returns-in-Err-clause-err
returns-in-Err-clause-err g c = inl (none_asked_by (g.C.Asks.count c.args.cells.now) (g.C.Asks.seen c.args.pass.now) c.from.result c.from.ensures)
