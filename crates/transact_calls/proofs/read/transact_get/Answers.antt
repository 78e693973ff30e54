use Rattle.std.proofs.Common.{List, subst}
use Rattle.std.proofs.lemmas.Result.{IfOk-weaker, IfErr-weaker}
use Rattle.table_request.specs.declared.transactions.TransactRead.{TransactRead}
use Rattle.cell_model.specs.declared.key.CellKey.{CellKey}
use Rattle.transact_calls.specs.Targets.{FindsKeys, FindsItems}
use Rattle.transact_calls.specs.Gets.{ReadsAt}
use Rattle.transact_calls.proofs.Looking.{gives_up_behind}
use Rattle.transact_calls.proofs.Got.{get_try}
use Rattle.transact_calls.proofs.read.transact_get.Goals as goal

pub returns-in-Ok-Ok-clause-ok : goal.returns-in-Ok-Ok-clause-ok
returns-in-Ok-Ok-clause-ok g c =
    let n = g.C.Asks.count c.args.cells.now in
    let p = g.C.Asks.seen c.args.pass.now in
    let r = c.args.request in
    let mid = g.C.Asks.seen c.find.new.pass in
    let q = g.C.Asks.seen c.read_at-tried.new.pass in
    let asked = subst (λ x. FindsItems n p c.as_slice.result.now x mid) c.in-Ok-Ok.field-0-is c.in-Ok-Ok.ensures.ok in
    let found = subst (λ (reads : List TransactRead). FindsKeys n p reads c.in-Ok-Ok.keys mid) c.as_slice.ensures asked in
    IfOk-weaker c.read_at-tried.result _ _
    (λ tried at. get_try n p r c.in-Ok-Ok.keys mid found tried q
    (subst (λ (keys : List CellKey). ReadsAt n mid r keys tried q) c.as_slice-in-Ok-Ok.ensures at))
    c.read_at-tried.ensures.ok

pub returns-in-Ok-Ok-clause-err : goal.returns-in-Ok-Ok-clause-err
returns-in-Ok-Ok-clause-err g c =
    let n = g.C.Asks.count c.args.cells.now in
    let p = g.C.Asks.seen c.args.pass.now in
    let mid = g.C.Asks.seen c.find.new.pass in
    let q = g.C.Asks.seen c.read_at-tried.new.pass in
    let asked = subst (λ x. FindsItems n p c.as_slice.result.now x mid) c.in-Ok-Ok.field-0-is c.in-Ok-Ok.ensures.ok in
    IfErr-weaker c.read_at-tried.result _ _
    (λ why gives. gives_up_behind n p asked.told mid asked.looks why q gives)
    c.read_at-tried.ensures.err
