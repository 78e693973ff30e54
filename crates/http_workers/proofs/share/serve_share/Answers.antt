use Rattle.std.proofs.Common.{arith}
use Rattle.http_workers.proofs.Connections.{out_after, served_out, serves_none, serves_ended, serves_more}
use Rattle.http_workers.proofs.share.serve_share.Goals as goal

pub loop-init : goal.loop-init
loop-init g c = record {
  serves = serves_none _ _ _;
  fits = c.requires;
  ends = omega arith;
  faults = omega arith;
  few = omega arith;
  counted = omega arith;
}

pub serve_connection-requires-clause-out : goal.serve_connection-requires-clause-out
serve_connection-requires-clause-out g c = λ κs lives. out_after _ _ _ _ (rw c.in-Ok-Some.field-0-is at c.in-Ok-Some.ensures.one)

pub returns-in-Ok-None-clause-served : goal.returns-in-Ok-None-clause-served
returns-in-Ok-None-clause-served g c =
    serves_ended _ _ _ _ _ _ c.loop.invariant.serves (rw c.in-Ok-None.field-0-is at c.in-Ok-None.ensures.none)

pub returns-in-Ok-None-clause-all : goal.returns-in-Ok-None-clause-all
returns-in-Ok-None-clause-all g c = λ _. served_out _ _ (rw c.in-Ok-None.field-0-is at c.in-Ok-None.ensures.none)

pub loop-preserved-in-Ok-Some : goal.loop-preserved-in-Ok-Some
loop-preserved-in-Ok-Some g c = record {
  serves = serves_more _ _ _ _ _ _ _ _ _ _ c.loop.invariant.serves (rw c.in-Ok-Some.field-0-is at c.in-Ok-Some.ensures.one)
      c.serve_connection.ensures.served;
  fits = c.serve_connection.ensures.fits;
  ends = omega (arith, c.loop.invariant.ends, c.accept.ensures.ends, c.serve_connection.ensures.ends);
  faults = omega (arith, c.loop.invariant.faults, c.accept.ensures.cause.later, c.serve_connection.ensures.faults);
  few = omega arith;
  counted = omega (arith, c.loop.invariant.faults, c.accept.ensures.cause.later, c.serve_connection.ensures.faults);
}
