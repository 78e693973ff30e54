use Rattle.std.proofs.Common.{rules, ◌≡◌, List, [], map, None, Some, subst}
use Rattle.table_request.specs.declared.transactions.TransactAction.{TransactAction}
use Rattle.cluster.specs.declared.step.StepError.{StepError}
use Rattle.cell_asks.proofs.Trails.{none_asked, no_memory}
use Rattle.transact_calls.specs.Known.{LookedUp}
use Rattle.transact_calls.proofs.Looking.{gives_up_behind}
use Rattle.transact_calls.proofs.States.{finds_stated, refused_missing}
use Rattle.transact_calls.proofs.keyed.state_by_looks.Goals as goal

pub returns-in-Some-clause-ok : goal.returns-in-Some-clause-ok
returns-in-Some-clause-ok g c =
    let n = g.C.Asks.count c.args.cells.now in
    let p = g.C.Asks.seen c.args.pass.now in
    let q = g.C.Asks.seen c.look_up_all.new.pass in
    let entries = c.look_up_all.new.tables.entries in
    let up = subst (λ w. LookedUp n p (map (λ (a : TransactAction). a.table) c.as_slice.result.now) [] entries w q) c.in-Some.is c.in_ok-why.ensures.ok in
    refused_missing n p c.args.actions c.in-Some.why q
    (subst (λ (xs : List TransactAction). LookedUp n p (map (λ (a : TransactAction). a.table) xs) [] entries (Some c.in-Some.why) q) c.as_slice.ensures up)

pub returns-in_err-state_by-clause-err : goal.returns-in_err-state_by-clause-err
returns-in_err-state_by-clause-err g c =
    let n = g.C.Asks.count c.args.cells.now in
    let p = g.C.Asks.seen c.args.pass.now in
    let q = g.C.Asks.seen c.look_up_all.new.pass in
    let entries = c.look_up_all.new.tables.entries in
    let absent : c.in_ok-why.field-0 ≡ None = search rules in
    let on = subst (λ w. LookedUp n p (map (λ (a : TransactAction). a.table) c.as_slice.result.now) [] entries w q) absent c.in_ok-why.ensures.ok in
    no_memory c.from_residual-in_err-state_by.result _ c.from_residual-in_err-state_by.ensures.1
    (gives_up_behind n p on.told q on.looks StepError.NoMemory q (none_asked n q))

pub returns-clause-ok : goal.returns-clause-ok
returns-clause-ok g c =
    let n = g.C.Asks.count c.args.cells.now in
    let p = g.C.Asks.seen c.args.pass.now in
    let q = g.C.Asks.seen c.look_up_all.new.pass in
    let entries = c.look_up_all.new.tables.entries in
    let absent : c.in_ok-why.field-0 ≡ None = search rules in
    let on = subst (λ w. LookedUp n p (map (λ (a : TransactAction). a.table) c.as_slice.result.now) [] entries w q) absent c.in_ok-why.ensures.ok in
    let up = subst (λ (xs : List TransactAction). LookedUp n p (map (λ (a : TransactAction). a.table) xs) [] entries None q) c.as_slice.ensures on in
    finds_stated n p c.args.actions entries q up c.in_ok-state_by.field-0 c.in_ok-state_by.ensures
