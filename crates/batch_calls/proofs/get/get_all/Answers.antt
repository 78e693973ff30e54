use Rattle.std.proofs.Common.{arith, length, ◌≡◌, sym, subst, ◌∙◌}
use Rattle.std.specs.Vec.Iter.{into_iter_items}
use Rattle.std.proofs.lemmas.List.{nil_from_length}
use Rattle.txn_core.specs.declared.message.Message.{Message}
use Rattle.cell_asks.specs.Answers.{got_answer}
use Rattle.cell_asks.specs.Steps.{One}
use Rattle.cell_asks.proofs.Trails.{no_memory, same_error}
use Rattle.batch_calls.specs.Steps.{AddsItem}
use Rattle.batch_calls.proofs.KeysRead.{ReadSoFar, read_none, read_more, read_full, read_to_end, read_cut, read_gone, read_unkept}
use Rattle.batch_calls.proofs.get.get_all.Goals as goal

pub loop-place-init : goal.loop-place-init
loop-place-init g c = record {
  far =
      subst (λ r. ReadSoFar (g.C.Asks.count c.args.cells.now) (g.C.Asks.seen c.args.pass.now) c.args.places (into_iter_items c.into_iter-place-iterator.result) r (g.C.Asks.seen c.args.pass.now))
      (sym c.new-reading.ensures)
      (read_none (g.C.Asks.count c.args.cells.now) (g.C.Asks.seen c.args.pass.now) c.args.places (into_iter_items c.into_iter-place-iterator.result)
      (c.into_iter-place-iterator.ensures.into_iter_gives.0 ∙ c.from-place-items.ensures));
  fits = c.requires.fits;
}

pub returns-in_err-item-clause-err : goal.returns-in_err-item-clause-err
returns-in_err-item-clause-err g c =
    let l = c.loop-place in
    let n = g.C.Asks.count c.args.cells.now in
    let p = g.C.Asks.seen c.args.pass.now in
    let why = c.in_err-item.field-0.0 in
    same_error c.from_residual.result _ why c.from_residual.ensures.1
    (read_cut n p c.args.places (into_iter_items l.place-iterator) l.reading (g.C.Asks.seen l.pass) l.invariant.far why _ c.in_err-item.ensures.err)

pub returns-in-Stale-clause-ok : goal.returns-in-Stale-clause-ok
returns-in-Stale-clause-ok g c =
    let l = c.loop-place in
    let n = g.C.Asks.count c.args.cells.now in
    let p = g.C.Asks.seen c.args.pass.now in
    let one = subst (λ got. One n (g.C.Asks.seen l.pass) (Message.Get c.in-Some.place) (got_answer got) (g.C.Asks.seen c.get.new.pass)) c.in-Stale.is c.in_ok-item.ensures.ok in
    read_gone n p c.args.places (into_iter_items l.place-iterator) l.reading (g.C.Asks.seen l.pass) l.invariant.far c.in-Some.place _ one

pub returns-in_err-fits-clause-err : goal.returns-in_err-fits-clause-err
returns-in_err-fits-clause-err g c =
    let l = c.loop-place in
    let n = g.C.Asks.count c.args.cells.now in
    let p = g.C.Asks.seen c.args.pass.now in
    let one = subst (λ got. One n (g.C.Asks.seen l.pass) (Message.Get c.in-Some.place) (got_answer got) (g.C.Asks.seen c.get.new.pass)) c.in-Row.is c.in_ok-item.ensures.ok in
    no_memory c.from_residual-in_err-fits.result _ c.from_residual-in_err-fits.ensures.1
    (read_unkept n p c.args.places (into_iter_items l.place-iterator) l.reading (g.C.Asks.seen l.pass) l.invariant.far c.in-Some.place c.in-Row.item _ one)

pub returns-then-not-fits-clause-ok : goal.returns-then-not-fits-clause-ok
returns-then-not-fits-clause-ok g c =
    let l = c.loop-place in
    let n = g.C.Asks.count c.args.cells.now in
    let p = g.C.Asks.seen c.args.pass.now in
    let one = subst (λ got. One n (g.C.Asks.seen l.pass) (Message.Get c.in-Some.place) (got_answer got) (g.C.Asks.seen c.get.new.pass)) c.in-Row.is c.in_ok-item.ensures.ok in
    let far = subst (λ rest. ReadSoFar n p c.args.places rest l.reading (g.C.Asks.seen l.pass)) c.in-Some.ensures.steps.0 l.invariant.far in
    read_full n p c.args.places c.in-Some.place (into_iter_items c.next.new.self) l.reading (g.C.Asks.seen l.pass) far c.in-Row.item _ one c.add.new.self
    (subst (λ b. AddsItem c.in-Row.item b l.reading c.add.new.self) c.if-not-fits.true c.in_ok-fits.ensures)

pub loop-place-preserved : goal.loop-place-preserved
loop-place-preserved g c =
    let l = c.loop-place in
    let n = g.C.Asks.count c.args.cells.now in
    let p = g.C.Asks.seen c.args.pass.now in
    let one = subst (λ got. One n (g.C.Asks.seen l.pass) (Message.Get c.in-Some.place) (got_answer got) (g.C.Asks.seen c.get.new.pass)) c.in-Row.is c.in_ok-item.ensures.ok in
    let far = subst (λ rest. ReadSoFar n p c.args.places rest l.reading (g.C.Asks.seen l.pass)) c.in-Some.ensures.steps.0 l.invariant.far in record {
      far =
          read_more n p c.args.places c.in-Some.place (into_iter_items c.next.new.self) l.reading (g.C.Asks.seen l.pass) far c.in-Row.item _ one c.add.new.self
          (subst (λ b. AddsItem c.in-Row.item b l.reading c.add.new.self) c.if-not-fits.false c.in_ok-fits.ensures);
      fits = c.get.ensures.fits;
    }

pub returns-clause-ok : goal.returns-clause-ok
returns-clause-ok g c =
    let l = c.loop-place in
    let ended = c.in-None.ensures.steps.0 in
    let short : length (into_iter_items l.place-iterator) ≡ 0 = grind arith in
    read_to_end (g.C.Asks.count c.args.cells.now) (g.C.Asks.seen c.args.pass.now) c.args.places (into_iter_items l.place-iterator) l.reading (g.C.Asks.seen l.pass) l.invariant.far
    (nil_from_length (into_iter_items l.place-iterator) short)
