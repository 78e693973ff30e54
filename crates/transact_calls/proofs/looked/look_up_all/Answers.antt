use Rattle.std.proofs.Common.{◌+◌, ◌∷◌, map, drop, sym, subst}
use Rattle.cell_asks.proofs.Trails.{same_error}
use Rattle.transact_calls.specs.Known.{LookedUp, LooksOn}
use Rattle.transact_calls.proofs.Names.{next_name}
use Rattle.transact_calls.proofs.Looking.{gives_up_behind, looks_none}
use Rattle.transact_calls.proofs.looked.look_up_all.Goals as goal

pub loop-part-init : goal.loop-part-init
loop-part-init g c = record {
  on = looks_none (g.C.Asks.count c.args.cells.now) (g.C.Asks.seen c.args.pass.now) (map g.P.OfTable.table_of c.args.parts.now) c.args.tables.now.entries c.requires.none;
  told = c.requires.told;
  fits = c.requires.fits;
}

pub returns-in_err-why-clause-err : goal.returns-in_err-why-clause-err
returns-in_err-why-clause-err g c =
    let l = c.loop-part in
    let why = c.in_err-why.field-0.0 in
    same_error c.from_residual.result _ why c.from_residual.ensures.1
    (gives_up_behind (g.C.Asks.count c.args.cells.now) (g.C.Asks.seen c.args.pass.now) l.invariant.on.told (g.C.Asks.seen l.pass) l.invariant.on.looks why _ c.in_err-why.ensures.err)

pub returns-in-Some-clause-ok : goal.returns-in-Some-clause-ok
returns-in-Some-clause-ok g c =
    let n = g.C.Asks.count c.args.cells.now in
    let p = g.C.Asks.seen c.args.pass.now in
    let l = c.loop-part in
    let mid = g.C.Asks.seen l.pass in
    let f = g.P.OfTable.table_of in
    let parts = c.args.parts.now in
    let names = map f parts in
    let rest = map f (drop (l.part-index + 1) parts) in
    let on = subst (λ xs. LooksOn n p names xs l.tables.entries mid) (next_name f parts l.part-index c.part-item.result c.loop-part-test.true c.part-item.is) l.invariant.on in
    let here = subst (λ name. LooksOn n p names (name ∷ rest) l.tables.entries mid) (sym c.table.ensures) on in
    subst (λ w. LookedUp n p names rest c.look_up.new.tables.entries w (g.C.Asks.seen c.look_up.new.pass)) c.in-Some.is (c.in_ok-why.ensures.ok p names rest here)
