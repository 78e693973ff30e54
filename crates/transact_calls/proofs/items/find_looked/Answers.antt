use Rattle.std.proofs.Common.{rules, ◌≡◌, [], map, None, subst}
use Rattle.table_request.specs.declared.transactions.TransactRead.{TransactRead}
use Rattle.cluster.specs.declared.step.StepError.{StepError}
use Rattle.cell_asks.proofs.Trails.{none_asked, no_memory}
use Rattle.transact_calls.specs.Known.{LookedUp}
use Rattle.transact_calls.proofs.Looking.{gives_up_behind}
use Rattle.transact_calls.proofs.Targets.{finds_items, reads_missing}
use Rattle.transact_calls.proofs.items.find_looked.Goals as goal

pub returns-in-Some-clause-ok : goal.returns-in-Some-clause-ok
returns-in-Some-clause-ok g c =
    let n = g.C.Asks.count c.args.cells.now in
    let p = g.C.Asks.seen c.args.pass.now in
    let q = g.C.Asks.seen c.look_up_all.new.pass in
    let entries = c.look_up_all.new.tables.entries in
    reads_missing n p c.args.reads.now c.in-Some.why q
    (subst (λ w. LookedUp n p (map (λ (read : TransactRead). read.table) c.args.reads.now) [] entries w q) c.in-Some.is c.in_ok-why.ensures.ok)

pub returns-in_err-keys_by-clause-err : goal.returns-in_err-keys_by-clause-err
returns-in_err-keys_by-clause-err g c =
    let n = g.C.Asks.count c.args.cells.now in
    let p = g.C.Asks.seen c.args.pass.now in
    let q = g.C.Asks.seen c.look_up_all.new.pass in
    let entries = c.look_up_all.new.tables.entries in
    let absent : c.in_ok-why.field-0 ≡ None = search rules in
    let on = subst (λ w. LookedUp n p (map (λ (read : TransactRead). read.table) c.args.reads.now) [] entries w q) absent c.in_ok-why.ensures.ok in
    no_memory c.from_residual-in_err-keys_by.result _ c.from_residual-in_err-keys_by.ensures.1
    (gives_up_behind n p on.told q on.looks StepError.NoMemory q (none_asked n q))

pub returns-clause-ok : goal.returns-clause-ok
returns-clause-ok g c =
    let n = g.C.Asks.count c.args.cells.now in
    let p = g.C.Asks.seen c.args.pass.now in
    let q = g.C.Asks.seen c.look_up_all.new.pass in
    let entries = c.look_up_all.new.tables.entries in
    let absent : c.in_ok-why.field-0 ≡ None = search rules in
    let on = subst (λ w. LookedUp n p (map (λ (read : TransactRead). read.table) c.args.reads.now) [] entries w q) absent c.in_ok-why.ensures.ok in
    finds_items n p c.args.reads.now entries q on c.in_ok-keys_by.field-0 c.in_ok-keys_by.ensures
