use Rattle.std.proofs.Common.{subst, inl}
use Rattle.std.proofs.lemmas.Result.{IfOk-weaker, IfErr-weaker}
use Rattle.table_request.specs.declared.request.Request.TheVariants as request
use Rattle.cell_model.specs.Actions.{stated_delete}
use Rattle.item_calls.specs.Places.{IsPlaced}
use Rattle.item_calls.proofs.Requests.{delete_rows, delete_refused, delete_states}
use Rattle.item_calls.proofs.Tries.{write_try, write_gives_up, refused_by_look}
use Rattle.item_calls.proofs.delete.delete_item.Goals as goal

pub returns-in-Ok-At-clause-ok : goal.returns-in-Ok-At-clause-ok
returns-in-Ok-At-clause-ok g c =
    let n = g.C.Asks.count c.args.cells.now in
    let p = g.C.Asks.seen c.args.pass.now in
    let r = c.args.request in
    let mid = g.C.Asks.seen c.find.new.pass in
    let known = subst (λ x. IsPlaced n p r.table (delete_rows r) x mid) c.in-Ok-At.field-0-is c.in-Ok-At.ensures.ok in
    IfOk-weaker c.delete_at.result _ _
    (λ tried at. write_try n p (request.DeleteItem r) (delete_rows r) (λ key. stated_delete key r) (delete_states r) c.in-Ok-At.key mid known _ tried at)
    c.delete_at.ensures.ok

pub returns-in-Ok-At-clause-err : goal.returns-in-Ok-At-clause-err
returns-in-Ok-At-clause-err g c =
    let n = g.C.Asks.count c.args.cells.now in
    let p = g.C.Asks.seen c.args.pass.now in
    let r = c.args.request in
    let mid = g.C.Asks.seen c.find.new.pass in
    let known = subst (λ x. IsPlaced n p r.table (delete_rows r) x mid) c.in-Ok-At.field-0-is c.in-Ok-At.ensures.ok in
    IfErr-weaker c.delete_at.result _ _
    (λ why stops. write_gives_up n p (request.DeleteItem r) (delete_rows r) (λ key. stated_delete key r) (delete_states r) c.in-Ok-At.key mid known _ why stops)
    c.delete_at.ensures.err

pub returns-in-Ok-Refused-clause-ok : goal.returns-in-Ok-Refused-clause-ok
returns-in-Ok-Refused-clause-ok g c =
    let n = g.C.Asks.count c.args.cells.now in
    let p = g.C.Asks.seen c.args.pass.now in
    let r = c.args.request in
    let mid = g.C.Asks.seen c.find.new.pass in
    let refused = subst (λ x. IsPlaced n p r.table (delete_rows r) x mid) c.in-Ok-Refused.field-0-is c.in-Ok-Refused.ensures.ok in
    inl (refused_by_look n p (request.DeleteItem r) (delete_rows r) (delete_refused r) c.in-Ok-Refused.why mid refused)

pub returns-in-Err-clause-err : goal.returns-in-Err-clause-err
returns-in-Err-clause-err g c = inl c.in-Err.ensures.err
