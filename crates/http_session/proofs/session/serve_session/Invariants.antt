use Rattle.std.proofs.Common.{◌≤◌, IfSome}
use Rattle.std.specs.Io.KnownBytes.{prepend_known}
use Rattle.http_session.specs.Exchanges.{stand}
use Rattle.http_session.proofs.Progress.{Progress}
use Rattle.http_session.proofs.session.serve_session.Given as goal

abbrev pub invariant-loop-done : goal.invariant-loop-done
invariant-loop-done g l = record {
  progress : IfSome (g.S.Source.left l.fn.source) (λ input.
      Progress g.V.Service.ways input
      (stand (g.S.Source.left l.fn.source) (g.C.Clock.coming l.fn.clock) 0 (g.K.Sink.written l.fn.sink) l.fn.state)
      (stand (prepend_known l.reader (g.S.Source.left l.source)) (g.C.Clock.coming l.clock) l.latest (g.K.Sink.written l.sink) l.state)
      l.done);
  fits : g.V.Service.fits l.service l.state;
  reads : g.S.Source.faults l.fn.source ≤ g.S.Source.faults l.source;
  writes : g.K.Sink.faults l.fn.sink ≤ g.K.Sink.faults l.sink;
}
