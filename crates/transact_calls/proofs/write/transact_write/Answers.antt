use Rattle.std.proofs.Common.{ℕ, List, Option, subst}
use Rattle.std.proofs.lemmas.Result.{IfOk-weaker, IfErr-weaker}
use Rattle.cell_model.specs.Actions.{ItemAction}
use Rattle.transact_calls.specs.Stated.{Finds}
use Rattle.transact_calls.specs.Sent.{Sends, SendsPartly}
use Rattle.transact_calls.proofs.Ended.{gives_up_early, write_try, write_gives_up}
use Rattle.transact_calls.proofs.write.transact_write.Goals as goal

pub returns-in-Ok-Actions-clause-ok : goal.returns-in-Ok-Actions-clause-ok
returns-in-Ok-Actions-clause-ok g c =
    let n = g.C.Asks.count c.args.cells.now in
    let p = g.C.Asks.seen c.args.pass.now in
    let r = c.args.request in
    let mid = g.C.Asks.seen c.state.new.pass in
    let q = g.C.Asks.seen c.send-tried.new.pass in
    let found = subst (λ x. Finds n p r.actions x mid) c.in-Ok-Actions.field-0-is c.in-Ok-Actions.ensures.ok in
    IfOk-weaker c.send-tried.result _ _
    (λ tried sent. write_try n p r c.in-Ok-Actions.actions mid found tried q
    (subst (λ (z : Option (List ℕ) × List ItemAction). Sends n mid z.0 z.1 r.consumed tried q) (λ i. (c.as_ref.ensures.value i, c.as_slice.ensures i)) sent))
    c.send-tried.ensures.ok

pub returns-in-Ok-Actions-clause-err : goal.returns-in-Ok-Actions-clause-err
returns-in-Ok-Actions-clause-err g c =
    let n = g.C.Asks.count c.args.cells.now in
    let p = g.C.Asks.seen c.args.pass.now in
    let r = c.args.request in
    let mid = g.C.Asks.seen c.state.new.pass in
    let q = g.C.Asks.seen c.send-tried.new.pass in
    let found = subst (λ x. Finds n p r.actions x mid) c.in-Ok-Actions.field-0-is c.in-Ok-Actions.ensures.ok in
    IfErr-weaker c.send-tried.result _ _
    (λ why sent. write_gives_up n p r c.in-Ok-Actions.actions mid found why q
    (subst (λ (z : Option (List ℕ) × List ItemAction). SendsPartly n mid z.0 z.1 why q) (λ i. (c.as_ref.ensures.value i, c.as_slice.ensures i)) sent))
    c.send-tried.ensures.err

pub returns-in-Err-clause-err : goal.returns-in-Err-clause-err
returns-in-Err-clause-err g c =
    gives_up_early (g.C.Asks.count c.args.cells.now) (g.C.Asks.seen c.args.pass.now) c.args.request c.in-Err.why (g.C.Asks.seen c.state.new.pass) c.in-Err.ensures.err
