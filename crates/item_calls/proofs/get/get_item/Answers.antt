use Rattle.std.proofs.Common.{subst, inl}
use Rattle.std.proofs.lemmas.Result.{IfOk-weaker, IfErr-weaker}
use Rattle.table_request.specs.declared.request.Request.TheVariants as request
use Rattle.item_calls.specs.Places.{IsPlaced}
use Rattle.cell_asks.proofs.Trails.{gives_up_on, same_error}
use Rattle.item_calls.proofs.Requests.{read_rows, read_refused}
use Rattle.item_calls.proofs.Tries.{read_try, refused_by_look}
use Rattle.item_calls.proofs.get.get_item.Goals as goal

pub returns-in_err-key-clause-err : goal.returns-in_err-key-clause-err
returns-in_err-key-clause-err g c =
    same_error c.from_residual.result _ c.in_err-key.field-0.0 c.from_residual.ensures.1 c.in_err-key.ensures.err

pub returns-in-At-clause-ok : goal.returns-in-At-clause-ok
returns-in-At-clause-ok g c =
    let n = g.C.Asks.count c.args.cells.now in
    let p = g.C.Asks.seen c.args.pass.now in
    let r = c.args.request.now in
    let mid = g.C.Asks.seen c.find.new.pass in
    let known = subst (λ x. IsPlaced n p r.table (read_rows r) x mid) c.in-At.is c.in_ok-key.ensures.ok in
    IfOk-weaker c.get_at.result _ _ (λ tried at. read_try n p r c.in-At.key mid known _ tried at) c.get_at.ensures.ok

pub returns-in-At-clause-err : goal.returns-in-At-clause-err
returns-in-At-clause-err g c =
    let n = g.C.Asks.count c.args.cells.now in
    let p = g.C.Asks.seen c.args.pass.now in
    let r = c.args.request.now in
    let mid = g.C.Asks.seen c.find.new.pass in
    let known = subst (λ x. IsPlaced n p r.table (read_rows r) x mid) c.in-At.is c.in_ok-key.ensures.ok in
    IfErr-weaker c.get_at.result _ _ (λ why gives. gives_up_on n p r.table mid known.looked why _ gives) c.get_at.ensures.err

pub returns-in-Refused-clause-ok : goal.returns-in-Refused-clause-ok
returns-in-Refused-clause-ok g c =
    let n = g.C.Asks.count c.args.cells.now in
    let p = g.C.Asks.seen c.args.pass.now in
    let r = c.args.request.now in
    let mid = g.C.Asks.seen c.find.new.pass in
    let refused = subst (λ x. IsPlaced n p r.table (read_rows r) x mid) c.in-Refused.is c.in_ok-key.ensures.ok in
    inl (refused_by_look n p (request.GetItem r) (read_rows r) (read_refused r) c.in-Refused.why mid refused)
