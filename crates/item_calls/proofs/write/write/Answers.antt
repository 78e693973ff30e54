use Rattle.std.proofs.Common.{inl}
use Rattle.cell_asks.proofs.Trails.{not_answered, told_one, told_stops, no_memory, same_error}
use Rattle.item_calls.proofs.Trails.{write_stops}
use Rattle.item_calls.proofs.write.write.Goals as goal

pub returns-in_err-wrote-clause-err : goal.returns-in_err-wrote-clause-err
returns-in_err-wrote-clause-err g c =
    let why = c.in_err-wrote.field-0.0 in
    same_error c.from_residual.result _ why c.from_residual.ensures.1
    (inl (not_answered (g.C.Asks.count c.args.cells.now) (g.C.Asks.seen c.args.pass.now) why _ c.in_err-wrote.ensures.err))

pub returns-in_err-wrote-clause-told : goal.returns-in_err-wrote-clause-told
returns-in_err-wrote-clause-told g c =
    told_stops (g.C.Asks.count c.args.cells.now) (g.C.Asks.seen c.args.pass.now) c.in_err-wrote.field-0.0 _ c.in_err-wrote.ensures.err c.args.looks.now c.requires.told

pub returns-in_err-tried_write-clause-err : goal.returns-in_err-tried_write-clause-err
returns-in_err-tried_write-clause-err g c =
    no_memory c.from_residual-in_err-tried_write.result _ c.from_residual-in_err-tried_write.ensures.1
    (write_stops (g.C.Asks.count c.args.cells.now) (g.C.Asks.seen c.args.pass.now) c.args.action c.in_ok-wrote.wrote _ c.in_ok-wrote.ensures.ok)

pub returns-in_err-tried_write-clause-told : goal.returns-in_err-tried_write-clause-told
returns-in_err-tried_write-clause-told g c =
    c.tried_write.ensures.told _
    (told_one (g.C.Asks.count c.args.cells.now) (g.C.Asks.seen c.args.pass.now) _ _ _ c.in_ok-wrote.ensures.ok c.args.looks.now c.requires.told)

pub returns-clause-ok : goal.returns-clause-ok
returns-clause-ok g c = record { wrote = c.in_ok-wrote.wrote; one = c.in_ok-wrote.ensures.ok; is = c.in_ok-tried_write.ensures.tried }

pub returns-clause-told : goal.returns-clause-told
returns-clause-told g c =
    c.tried_write.ensures.told _
    (told_one (g.C.Asks.count c.args.cells.now) (g.C.Asks.seen c.args.pass.now) _ _ _ c.in_ok-wrote.ensures.ok c.args.looks.now c.requires.told)
