use Rattle.std.proofs.Common.{arith, length, ◌≡◌, subst, ◌∙◌}
use Rattle.std.specs.Vec.Iter.{into_iter_items}
use Rattle.std.proofs.lemmas.List.{nil_from_length}
use Rattle.cell_asks.proofs.Trails.{no_memory, same_error}
use Rattle.batch_calls.proofs.Sent.{WroteSoFar, wrote_none, wrote_on, wrote_each, some_none, some_stops, some_unkept}
use Rattle.batch_calls.proofs.write.write_all.Goals as goal

pub returns-in_err-wrotes-clause-err : goal.returns-in_err-wrotes-clause-err
returns-in_err-wrotes-clause-err g c =
    no_memory c.from_residual.result _ c.from_residual.ensures.1 (some_none (g.C.Asks.count c.args.cells.now) (g.C.Asks.seen c.args.pass.now) c.args.actions)

pub loop-action-init : goal.loop-action-init
loop-action-init g c = record {
  far =
      wrote_none (g.C.Asks.count c.args.cells.now) (g.C.Asks.seen c.args.pass.now) c.args.actions (into_iter_items c.into_iter-action-iterator.result)
      c.in_ok-wrotes.wrotes (c.into_iter-action-iterator.ensures.into_iter_gives.0 ∙ c.from-action-items.ensures) c.in_ok-wrotes.ensures;
  fits = c.requires.fits;
}

pub returns-in_err-wrote-clause-err : goal.returns-in_err-wrote-clause-err
returns-in_err-wrote-clause-err g c =
    let l = c.loop-action in
    let n = g.C.Asks.count c.args.cells.now in
    let p = g.C.Asks.seen c.args.pass.now in
    let why = c.in_err-wrote.field-0.0 in
    let far = subst (λ rest. WroteSoFar n p c.args.actions rest l.wrotes (g.C.Asks.seen l.pass)) c.in-Some.ensures.steps.0 l.invariant.far in
    same_error c.from_residual-in_err-wrote.result _ why c.from_residual-in_err-wrote.ensures.1
    (some_stops n p c.args.actions c.in-Some.action (into_iter_items c.next.new.self) l.wrotes (g.C.Asks.seen l.pass) far why _ c.in_err-wrote.ensures.err)

pub returns-in_err-push-clause-err : goal.returns-in_err-push-clause-err
returns-in_err-push-clause-err g c =
    let l = c.loop-action in
    let n = g.C.Asks.count c.args.cells.now in
    let p = g.C.Asks.seen c.args.pass.now in
    let far = subst (λ rest. WroteSoFar n p c.args.actions rest l.wrotes (g.C.Asks.seen l.pass)) c.in-Some.ensures.steps.0 l.invariant.far in
    no_memory c.from_residual-in_err-push.result _ c.from_residual-in_err-push.ensures.1
    (some_unkept n p c.args.actions c.in-Some.action (into_iter_items c.next.new.self) l.wrotes (g.C.Asks.seen l.pass) far c.in_ok-wrote.wrote _ c.in_ok-wrote.ensures.ok)

pub loop-action-preserved : goal.loop-action-preserved
loop-action-preserved g c =
    let l = c.loop-action in
    let n = g.C.Asks.count c.args.cells.now in
    let p = g.C.Asks.seen c.args.pass.now in
    let far = subst (λ rest. WroteSoFar n p c.args.actions rest l.wrotes (g.C.Asks.seen l.pass)) c.in-Some.ensures.steps.0 l.invariant.far in record {
      far =
          wrote_on n p c.args.actions c.in-Some.action (into_iter_items c.next.new.self) l.wrotes (g.C.Asks.seen l.pass) far c.in_ok-wrote.wrote _ c.in_ok-wrote.ensures.ok
          c.push.new.wrotes c.in_ok-push.ensures;
      fits = c.write.ensures.fits;
    }

pub returns-clause-ok : goal.returns-clause-ok
returns-clause-ok g c =
    let l = c.loop-action in
    let ended = c.in-None.ensures.steps.0 in
    let short : length (into_iter_items l.action-iterator) ≡ 0 = grind arith in
    wrote_each (g.C.Asks.count c.args.cells.now) (g.C.Asks.seen c.args.pass.now) c.args.actions (into_iter_items l.action-iterator) l.wrotes (g.C.Asks.seen l.pass) l.invariant.far
    (nil_from_length (into_iter_items l.action-iterator) short)
