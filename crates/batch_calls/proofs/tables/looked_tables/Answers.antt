use Rattle.std.proofs.Common.{◌≡◌, ◌∷◌, [], ◌++◌, ◌+◌, map, take, sym, ap, subst, ◌∙◌}
use Rattle.std.proofs.lemmas.List.{take_more, take_all, map-append}
use Rattle.cell_asks.proofs.Trails.{same_error}
use Rattle.batch_calls.specs.Tables.{LooksUp, LooksGive}
use Rattle.batch_calls.proofs.Looked.{begun, one_more, looks_asked}
use Rattle.batch_calls.proofs.Vain.{gives_behind}
use Rattle.batch_calls.proofs.tables.looked_tables.Goals as goal

pub loop-part-init : goal.loop-part-init
loop-part-init g c = record {
  given = begun (g.C.Asks.count c.args.cells.now) (g.C.Asks.seen c.args.pass.now) c.new-tables.result.entries c.new-tables.ensures.empty;
  told = c.requires.told;
  fits = c.requires.fits;
}

pub returns-in_err-look_up-clause-err : goal.returns-in_err-look_up-clause-err
returns-in_err-look_up-clause-err g c =
    let n = g.C.Asks.count c.args.cells.now in
    let p = g.C.Asks.seen c.args.pass.now in
    let given = c.loop-part.invariant.given in
    let why = c.in_err-look_up.field-0.0 in
    same_error c.from_residual.result _ why c.from_residual.ensures.1
    (gives_behind n p _ (looks_asked n p _ given.told _ given.looks) why _ c.in_err-look_up.ensures.err)

pub loop-part-preserved : goal.loop-part-preserved
loop-part-preserved g c =
    let l = c.loop-part in
    let n = g.C.Asks.count c.args.cells.now in
    let p = g.C.Asks.seen c.args.pass.now in
    let of = g.T.OnTable.table_of in
    let ts = c.args.parts.now in
    let t = c.part-item.result in
    let more : map of (take (l.part-index + 1) ts) ≡ map of (take l.part-index ts) ++ of t ∷ [] =
    ap (map of) (take_more ts l.part-index t c.loop-part-test.true ∙ ap (λ y. take l.part-index ts ++ y ∷ []) (sym c.part-item.is))
    ∙ map-append of (take l.part-index ts) (t ∷ []) in
    let up = subst (λ name. LooksUp n (g.C.Asks.seen l.pass) name l.tables.entries c.look_up.new.tables.entries (g.C.Asks.seen c.look_up.new.pass)) c.table.ensures
    c.in_ok-look_up.ensures.ok in record {
      given =
          subst (λ names. LooksGive n p names c.look_up.new.tables.entries (g.C.Asks.seen c.look_up.new.pass)) (sym more)
          (one_more n p (map of (take l.part-index ts)) l.tables.entries (g.C.Asks.seen l.pass) l.invariant.given (of t) c.look_up.new.tables.entries
          (g.C.Asks.seen c.look_up.new.pass) up);
      told = c.look_up.ensures.told;
      fits = c.look_up.ensures.fits;
    }

pub returns-clause-ok : goal.returns-clause-ok
returns-clause-ok g c =
    let l = c.loop-part in
    let n = g.C.Asks.count c.args.cells.now in
    let p = g.C.Asks.seen c.args.pass.now in
    subst (λ ts. LooksGive n p (map g.T.OnTable.table_of ts) l.tables.entries (g.C.Asks.seen l.pass)) (take_all l.part-index c.args.parts.now c.loop-part-test.false)
    l.invariant.given
