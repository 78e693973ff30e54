use Rattle.std.proofs.Common.{rules, ◌≡◌, [], ◌∷◌, subst}
use Rattle.cell_asks.proofs.Trails.{same_error}
use Rattle.numbered_tables.specs.Tables.{Kept}
use Rattle.transact_calls.specs.Known.{AsksStill}
use Rattle.transact_calls.proofs.Looking.{ConfirmsOn, confirmed, confirms_more, confirms_not, gives_up_behind}
use Rattle.transact_calls.proofs.looked.confirm.Goals as goal

pub returns-in_err-is_still-clause-err : goal.returns-in_err-is_still-clause-err
returns-in_err-is_still-clause-err g c =
    let l = c.loop-name in
    let why = c.in_err-is_still.field-0.0 in
    same_error c.from_residual.result _ why c.from_residual.ensures.1
    (gives_up_behind (g.C.Asks.count c.args.cells.now) (g.C.Asks.seen c.args.pass.now) l.invariant.on.told (g.C.Asks.seen l.pass) l.invariant.on.looks why _ c.in_err-is_still.ensures.err)

pub returns-then-not-branch-clause-ok : goal.returns-then-not-branch-clause-ok
returns-then-not-branch-clause-ok g c =
    let n = g.C.Asks.count c.args.cells.now in
    let p = g.C.Asks.seen c.args.pass.now in
    let l = c.loop-name in
    let mid = g.C.Asks.seen l.pass in
    let q = g.C.Asks.seen c.is_still.new.pass in
    let entries = c.args.tables.now.entries in
    let name = c.in-Some.name.now in
    let table = c.in-Some.table.now in
    let step : l.name-iterator ≡ (name, table) ∷ c.next.new.self = search rules in
    let on = subst (λ (rest : Kept). ConfirmsOn n p entries rest mid) step l.invariant.on in
    let asked = subst (λ b. AsksStill n mid name table.number b q) c.if-not-branch.true c.in_ok-is_still.ensures.ok in
    confirms_not n p entries name table c.next.new.self mid on q asked.0 asked.1

pub loop-name-preserved : goal.loop-name-preserved
loop-name-preserved g c =
    let n = g.C.Asks.count c.args.cells.now in
    let p = g.C.Asks.seen c.args.pass.now in
    let l = c.loop-name in
    let mid = g.C.Asks.seen l.pass in
    let q = g.C.Asks.seen c.is_still.new.pass in
    let entries = c.args.tables.now.entries in
    let name = c.in-Some.name.now in
    let table = c.in-Some.table.now in
    let step : l.name-iterator ≡ (name, table) ∷ c.next.new.self = search rules in
    let on = subst (λ (rest : Kept). ConfirmsOn n p entries rest mid) step l.invariant.on in
    let still = subst (λ b. AsksStill n mid name table.number b q) c.if-not-branch.false c.in_ok-is_still.ensures.ok in
    record { on = confirms_more n p entries name table c.next.new.self mid on q still; fits = c.in_ok-is_still.ensures.fits }

pub returns-clause-ok : goal.returns-clause-ok
returns-clause-ok g c =
    let l = c.loop-name in
    let none : l.name-iterator ≡ [] = search rules in
    confirmed (g.C.Asks.count c.args.cells.now) (g.C.Asks.seen c.args.pass.now) c.args.tables.now.entries l.name-iterator (g.C.Asks.seen l.pass) none l.invariant.on
