use Rattle.std.proofs.Common.{subst, inl}
use Rattle.std.proofs.lemmas.Result.{IfOk-weaker, IfErr-weaker}
use Rattle.table_model.specs.Batches.{asked_keys, batch_get_refusal}
use Rattle.batch_calls.specs.Tables.{AreFound}
use Rattle.batch_calls.proofs.Vain.{looked_asked, gives_behind}
use Rattle.batch_calls.proofs.Tries.{gets_refused, gets_try}
use Rattle.batch_calls.proofs.get.batch_get.Goals as goal

pub returns-in-Ok-At-clause-ok : goal.returns-in-Ok-At-clause-ok
returns-in-Ok-At-clause-ok g c =
    let n = g.C.Asks.count c.args.cells.now in
    let p = g.C.Asks.seen c.args.pass.now in
    let r = c.args.request in
    let mid = g.C.Asks.seen c.find.new.pass in
    let parts = subst (λ ts. AreFound (λ t. t.table) asked_keys batch_get_refusal n p ts c.in-Ok-At.field-0 mid) c.as_slice.ensures c.in-Ok-At.ensures.ok in
    let found = subst (λ x. AreFound (λ t. t.table) asked_keys batch_get_refusal n p r.tables x mid) c.in-Ok-At.field-0-is parts in
    IfOk-weaker c.get_at.result _ _ (λ tried at. gets_try n p r c.in-Ok-At.places mid found tried _ at) c.get_at.ensures.ok

pub returns-in-Ok-At-clause-err : goal.returns-in-Ok-At-clause-err
returns-in-Ok-At-clause-err g c =
    let n = g.C.Asks.count c.args.cells.now in
    let p = g.C.Asks.seen c.args.pass.now in
    let r = c.args.request in
    let mid = g.C.Asks.seen c.find.new.pass in
    let parts = subst (λ ts. AreFound (λ t. t.table) asked_keys batch_get_refusal n p ts c.in-Ok-At.field-0 mid) c.as_slice.ensures c.in-Ok-At.ensures.ok in
    let found = subst (λ x. AreFound (λ t. t.table) asked_keys batch_get_refusal n p r.tables x mid) c.in-Ok-At.field-0-is parts in
    IfErr-weaker c.get_at.result _ _ (λ why gives. gives_behind n p mid (looked_asked n p _ mid found.looked) why _ gives) c.get_at.ensures.err

pub returns-in-Ok-Refused-clause-ok : goal.returns-in-Ok-Refused-clause-ok
returns-in-Ok-Refused-clause-ok g c =
    let n = g.C.Asks.count c.args.cells.now in
    let p = g.C.Asks.seen c.args.pass.now in
    let r = c.args.request in
    let mid = g.C.Asks.seen c.find.new.pass in
    let parts = subst (λ ts. AreFound (λ t. t.table) asked_keys batch_get_refusal n p ts c.in-Ok-Refused.field-0 mid) c.as_slice.ensures c.in-Ok-Refused.ensures.ok in
    let refused = subst (λ x. AreFound (λ t. t.table) asked_keys batch_get_refusal n p r.tables x mid) c.in-Ok-Refused.field-0-is parts in
    inl (gets_refused n p r c.in-Ok-Refused.why mid refused)
