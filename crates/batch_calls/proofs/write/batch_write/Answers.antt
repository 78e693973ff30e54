use Rattle.std.proofs.Common.{subst, inl}
use Rattle.std.proofs.lemmas.Result.{IfOk-weaker, IfErr-weaker}
use Rattle.table_model.specs.Batches.{write_keys, batch_write_refusal}
use Rattle.batch_calls.specs.Tables.{AreFound}
use Rattle.batch_calls.proofs.Tries.{writes_refused, writes_try, writes_stop}
use Rattle.batch_calls.proofs.write.batch_write.Goals as goal

pub returns-in-Ok-At-clause-ok : goal.returns-in-Ok-At-clause-ok
returns-in-Ok-At-clause-ok g c =
    let n = g.C.Asks.count c.args.cells.now in
    let p = g.C.Asks.seen c.args.pass.now in
    let r = c.args.request in
    let mid = g.C.Asks.seen c.find.new.pass in
    let parts = subst (λ ts. AreFound (λ t. t.table) write_keys batch_write_refusal n p ts c.in-Ok-At.field-0 mid) c.as_slice.ensures c.in-Ok-At.ensures.ok in
    let found = subst (λ x. AreFound (λ t. t.table) write_keys batch_write_refusal n p r.tables x mid) c.in-Ok-At.field-0-is parts in
    IfOk-weaker c.write_at.result _ _ (λ tried at. writes_try n p r c.in-Ok-At.places mid found tried _ at) c.write_at.ensures.ok

pub returns-in-Ok-At-clause-err : goal.returns-in-Ok-At-clause-err
returns-in-Ok-At-clause-err g c =
    let n = g.C.Asks.count c.args.cells.now in
    let p = g.C.Asks.seen c.args.pass.now in
    let r = c.args.request in
    let mid = g.C.Asks.seen c.find.new.pass in
    let parts = subst (λ ts. AreFound (λ t. t.table) write_keys batch_write_refusal n p ts c.in-Ok-At.field-0 mid) c.as_slice.ensures c.in-Ok-At.ensures.ok in
    let found = subst (λ x. AreFound (λ t. t.table) write_keys batch_write_refusal n p r.tables x mid) c.in-Ok-At.field-0-is parts in
    IfErr-weaker c.write_at.result _ _ (λ why some. writes_stop n p r c.in-Ok-At.places mid found why _ some) c.write_at.ensures.err

pub returns-in-Ok-Refused-clause-ok : goal.returns-in-Ok-Refused-clause-ok
returns-in-Ok-Refused-clause-ok g c =
    let n = g.C.Asks.count c.args.cells.now in
    let p = g.C.Asks.seen c.args.pass.now in
    let r = c.args.request in
    let mid = g.C.Asks.seen c.find.new.pass in
    let parts = subst (λ ts. AreFound (λ t. t.table) write_keys batch_write_refusal n p ts c.in-Ok-Refused.field-0 mid) c.as_slice.ensures c.in-Ok-Refused.ensures.ok in
    let refused = subst (λ x. AreFound (λ t. t.table) write_keys batch_write_refusal n p r.tables x mid) c.in-Ok-Refused.field-0-is parts in
    inl (writes_refused n p r c.in-Ok-Refused.why mid refused)

pub returns-in-Err-clause-err : goal.returns-in-Err-clause-err
returns-in-Err-clause-err g c = inl c.in-Err.ensures.err
