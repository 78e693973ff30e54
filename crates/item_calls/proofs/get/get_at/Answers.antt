use Rattle.std.proofs.Common.{refl}
use Rattle.cell_asks.proofs.Trails.{not_answered, not_told, told_one, told_stops, no_memory, same_error}
use Rattle.item_calls.proofs.get.get_at.Goals as goal

pub returns-in_err-got-clause-err : goal.returns-in_err-got-clause-err
returns-in_err-got-clause-err g c =
    let why = c.in_err-got.field-0.0 in
    same_error c.from_residual.result _ why c.from_residual.ensures.1
    (not_answered (g.C.Asks.count c.args.cells.now) (g.C.Asks.seen c.args.pass.now) why _ c.in_err-got.ensures.err)

pub returns-in_err-got-clause-told : goal.returns-in_err-got-clause-told
returns-in_err-got-clause-told g c =
    told_stops (g.C.Asks.count c.args.cells.now) (g.C.Asks.seen c.args.pass.now) c.in_err-got.field-0.0 _ c.in_err-got.ensures.err c.args.looks.now c.requires.told

pub returns-in_err-tried_read-clause-err : goal.returns-in_err-tried_read-clause-err
returns-in_err-tried_read-clause-err g c =
    no_memory c.from_residual-in_err-tried_read.result _ c.from_residual-in_err-tried_read.ensures.1
    (not_told (g.C.Asks.count c.args.cells.now) (g.C.Asks.seen c.args.pass.now) _ _ _ c.in_ok-got.ensures.ok refl)

pub returns-in_err-tried_read-clause-told : goal.returns-in_err-tried_read-clause-told
returns-in_err-tried_read-clause-told g c =
    c.tried_read.ensures.told _
    (told_one (g.C.Asks.count c.args.cells.now) (g.C.Asks.seen c.args.pass.now) _ _ _ c.in_ok-got.ensures.ok c.args.looks.now c.requires.told)

pub returns-clause-ok : goal.returns-clause-ok
returns-clause-ok g c = record { got = c.in_ok-got.got; one = c.in_ok-got.ensures.ok; is = c.in_ok-tried_read.ensures.tried }

pub returns-clause-told : goal.returns-clause-told
returns-clause-told g c =
    c.tried_read.ensures.told _
    (told_one (g.C.Asks.count c.args.cells.now) (g.C.Asks.seen c.args.pass.now) _ _ _ c.in_ok-got.ensures.ok c.args.looks.now c.requires.told)
