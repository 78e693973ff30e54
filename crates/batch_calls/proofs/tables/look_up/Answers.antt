use Rattle.std.proofs.Common.{refl}
use Rattle.cell_asks.proofs.Trails.{none_asked, not_answered, not_told, told_one, told_stops, no_memory, same_error}
use Rattle.batch_calls.proofs.Looked.{look_named, look_told}
use Rattle.batch_calls.proofs.tables.look_up.Goals as goal

pub returns-in_err-asked-clause-err : goal.returns-in_err-asked-clause-err
returns-in_err-asked-clause-err g c =
    no_memory c.from_residual.result _ c.from_residual.ensures.1 (none_asked (g.C.Asks.count c.args.cells.now) (g.C.Asks.seen c.args.pass.now))

pub returns-in_err-told-clause-err : goal.returns-in_err-told-clause-err
returns-in_err-told-clause-err g c =
    let why = c.in_err-told.field-0.0 in
    same_error c.from_residual-in_err-told.result _ why c.from_residual-in_err-told.ensures.1
    (not_answered (g.C.Asks.count c.args.cells.now) (g.C.Asks.seen c.args.pass.now) why _ c.in_err-told.ensures.err)

pub returns-in_err-told-clause-told : goal.returns-in_err-told-clause-told
returns-in_err-told-clause-told g c =
    told_stops (g.C.Asks.count c.args.cells.now) (g.C.Asks.seen c.args.pass.now) c.in_err-told.field-0.0 _ c.in_err-told.ensures.err c.args.looks.now c.requires.told

pub returns-in_err-add_told-clause-err : goal.returns-in_err-add_told-clause-err
returns-in_err-add_told-clause-err g c =
    no_memory c.from_residual-in_err-add_told.result _ c.from_residual-in_err-add_told.ensures.1
    (not_told (g.C.Asks.count c.args.cells.now) (g.C.Asks.seen c.args.pass.now) _ _ _ c.in_ok-told.ensures.ok refl)

pub returns-in_err-add_told-clause-told : goal.returns-in_err-add_told-clause-told
returns-in_err-add_told-clause-told g c =
    let n = g.C.Asks.count c.args.cells.now in
    let p = g.C.Asks.seen c.args.pass.now in
    let name = c.args.name.now in
    let one = look_named n p name c.in_ok-asked.asked c.in_ok-asked.ensures c.in_ok-told.told _ c.in_ok-told.ensures.ok in
    c.add_told.ensures.told _ (told_one n p _ _ _ one c.args.looks.now c.requires.told) (look_told n p name c.in_ok-told.told _ one)

pub returns-clause-ok : goal.returns-clause-ok
returns-clause-ok g c =
    let n = g.C.Asks.count c.args.cells.now in
    let p = g.C.Asks.seen c.args.pass.now in
    record {
      told = c.in_ok-told.told;
      look = look_named n p c.args.name.now c.in_ok-asked.asked c.in_ok-asked.ensures c.in_ok-told.told _ c.in_ok-told.ensures.ok;
      added = c.in_ok-add_told.ensures.added;
    }

pub returns-clause-told : goal.returns-clause-told
returns-clause-told g c =
    let n = g.C.Asks.count c.args.cells.now in
    let p = g.C.Asks.seen c.args.pass.now in
    let name = c.args.name.now in
    let one = look_named n p name c.in_ok-asked.asked c.in_ok-asked.ensures c.in_ok-told.told _ c.in_ok-told.ensures.ok in
    c.add_told.ensures.told _ (told_one n p _ _ _ one c.args.looks.now c.requires.told) (look_told n p name c.in_ok-told.told _ one)
