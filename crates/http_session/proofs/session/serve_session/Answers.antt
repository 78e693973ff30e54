use Rattle.std.proofs.Common.{arith, sym, ◌∙◌}
use Rattle.http_session.proofs.Progress.{at_start, one_more_known, asked_for_known, ends_known}
use Rattle.http_session.proofs.session.serve_session.Goals as goal

pub loop-done-init : goal.loop-done-init
loop-done-init g c = record {
  progress = at_start _ _ _ _ _ _ c.clear.ensures;
  fits = c.requires;
  reads = omega arith;
  writes = omega arith;
}

pub returns-in-Err-clause-served : goal.returns-in-Err-clause-served
returns-in-Err-clause-served g c = ends_known _ _ _ _ _ _ c.in-Err.end c.loop-done.invariant.progress c.in-Err.ensures.turn

pub returns-then-last-clause-served : goal.returns-then-last-clause-served
returns-then-last-clause-served g c =
    asked_for_known _ _ _ _ _ _ c.in-Ok.ensures.turn.0 c.loop-done.invariant.progress c.in-Ok.ensures.turn.1
    (c.in-Ok.ensures.turn.2 ∙ c.if-last.true)

pub loop-done-preserved : goal.loop-done-preserved
loop-done-preserved g c = record {
  progress = one_more_known _ _ _ _ _ _ c.in-Ok.ensures.turn.0 c.loop-done.invariant.progress c.in-Ok.ensures.turn.1
      (c.in-Ok.ensures.turn.2 ∙ c.if-last.false);
  fits = c.serve_message.ensures.fits;
  reads = omega (arith, c.loop-done.invariant.reads, c.serve_message.ensures.reads);
  writes = omega (arith, c.loop-done.invariant.writes, c.serve_message.ensures.writes);
}
