use Rattle.std.proofs.Common.{subst}
use Rattle.cell_asks.proofs.Trails.{no_memory, same_error}
use Rattle.batch_calls.specs.Steps.{WroteEach, WroteSome}
use Rattle.batch_calls.proofs.Sent.{among, some_none, some_untold, told_each, told_some}
use Rattle.batch_calls.proofs.Telling.{told_alike}
use Rattle.batch_calls.proofs.write.write_at.Goals as goal

pub returns-in_err-actions-clause-err : goal.returns-in_err-actions-clause-err
returns-in_err-actions-clause-err g c =
    no_memory c.from_residual.result _ c.from_residual.ensures.1 (some_none (g.C.Asks.count c.args.cells.now) (g.C.Asks.seen c.args.pass.now) _)

pub returns-in_err-wrotes-clause-err : goal.returns-in_err-wrotes-clause-err
returns-in_err-wrotes-clause-err g c =
    let n = g.C.Asks.count c.args.cells.now in
    let p = g.C.Asks.seen c.args.pass.now in
    let why = c.in_err-wrotes.field-0.0 in
    let are = among c.in_ok-actions.actions c.as_slice.result.now c.args.request.tables c.args.places c.in_ok-actions.ensures c.as_slice.ensures in
    same_error c.from_residual-in_err-wrotes.result _ why c.from_residual-in_err-wrotes.ensures.1
    (subst (λ acts. WroteSome n p acts why (g.C.Asks.seen c.write_all.new.pass)) are c.in_err-wrotes.ensures.err)

pub returns-in_err-wrotes-clause-told : goal.returns-in_err-wrotes-clause-told
returns-in_err-wrotes-clause-told g c =
    told_some (g.C.Asks.count c.args.cells.now) (g.C.Asks.seen c.args.pass.now) _ c.args.looks.now c.requires.told c.in_err-wrotes.field-0.0 _ c.in_err-wrotes.ensures.err

pub returns-in_err-tried-clause-err : goal.returns-in_err-tried-clause-err
returns-in_err-tried-clause-err g c =
    let n = g.C.Asks.count c.args.cells.now in
    let p = g.C.Asks.seen c.args.pass.now in
    let q = g.C.Asks.seen c.write_all.new.pass in
    let are = among c.in_ok-actions.actions c.as_slice.result.now c.args.request.tables c.args.places c.in_ok-actions.ensures c.as_slice.ensures in
    no_memory c.from_residual-in_err-tried.result _ c.from_residual-in_err-tried.ensures.1
    (some_untold n p _ c.in_ok-wrotes.wrotes q (subst (λ acts. WroteEach n p acts c.in_ok-wrotes.wrotes q) are c.in_ok-wrotes.ensures.ok))

pub returns-in_err-tried-clause-told : goal.returns-in_err-tried-clause-told
returns-in_err-tried-clause-told g c =
    c.tried.ensures.told _
    (told_each (g.C.Asks.count c.args.cells.now) (g.C.Asks.seen c.args.pass.now) _ c.args.looks.now c.requires.told c.in_ok-wrotes.wrotes _ c.in_ok-wrotes.ensures.ok)

pub returns-clause-ok : goal.returns-clause-ok
returns-clause-ok g c =
    let n = g.C.Asks.count c.args.cells.now in
    let p = g.C.Asks.seen c.args.pass.now in
    let q = g.C.Asks.seen c.write_all.new.pass in
    let are = among c.in_ok-actions.actions c.as_slice.result.now c.args.request.tables c.args.places c.in_ok-actions.ensures c.as_slice.ensures in record {
      wrotes = c.in_ok-wrotes.wrotes;
      wrote = subst (λ acts. WroteEach n p acts c.in_ok-wrotes.wrotes q) are c.in_ok-wrotes.ensures.ok;
      is = told_alike c.args.request c.as_slice-2.result.now c.in_ok-wrotes.wrotes c.in_ok-tried.field-0 c.in_ok-tried.ensures.tried c.as_slice-2.ensures;
    }

pub returns-clause-told : goal.returns-clause-told
returns-clause-told g c =
    c.tried.ensures.told _
    (told_each (g.C.Asks.count c.args.cells.now) (g.C.Asks.seen c.args.pass.now) _ c.args.looks.now c.requires.told c.in_ok-wrotes.wrotes _ c.in_ok-wrotes.ensures.ok)
