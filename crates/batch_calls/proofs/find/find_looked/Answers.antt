use Rattle.std.proofs.Common.{inr}
use Rattle.cell_asks.proofs.Trails.{none_asked, no_memory, same_error}
use Rattle.batch_calls.proofs.Looked.{looks_asked}
use Rattle.batch_calls.proofs.Vain.{gives_behind}
use Rattle.batch_calls.proofs.find.find_looked.Goals as goal

pub returns-in_err-tables-clause-err : goal.returns-in_err-tables-clause-err
returns-in_err-tables-clause-err g c =
    same_error c.from_residual.result _ c.in_err-tables.field-0.0 c.from_residual.ensures.1 c.in_err-tables.ensures.err

pub returns-in_err-places-clause-err : goal.returns-in_err-places-clause-err
returns-in_err-places-clause-err g c =
    let n = g.C.Asks.count c.args.cells.now in
    let p = g.C.Asks.seen c.args.pass.now in
    let given = c.in_ok-tables.ensures.ok in
    no_memory c.from_residual-in_err-places.result _ c.from_residual-in_err-places.ensures.1
    (gives_behind n p _ (looks_asked n p _ given.told _ given.looks) _ _ (none_asked n _))

pub returns-in-Ok-clause-ok : goal.returns-in-Ok-clause-ok
returns-in-Ok-clause-ok g c =
    let given = c.in_ok-tables.ensures.ok in
    let asked = rw c.in-Ok.is at c.in_ok-places.ensures in
    record { looked = inr (given.told, given.looks); tables = _; known = given.known; free = asked.0; placed = asked.1 }

pub returns-clause-ok : goal.returns-clause-ok
returns-clause-ok g c =
    let asked = rw c.in-Err.is at c.in_ok-places.ensures in
    record { tables = _; given = c.in_ok-tables.ensures.ok; is = asked }
