use Rattle.std.proofs.Common.{◌≤◌, ◌<◌}
use Rattle.http_workers.specs.Shares.{Serves, RoseBy, max_failures, place}
use Rattle.http_workers.proofs.share.serve_share.Given as goal

abbrev pub invariant-loop : goal.invariant-loop
invariant-loop g l = record {
  serves : Serves g.V.Service.ways (g.L.Listener.connections l.fn.share) (g.L.Listener.connections l.share)
      (place (g.C.Clock.coming l.fn.clock) l.fn.state) (place (g.C.Clock.coming l.clock) l.state);
  fits : g.V.Service.fits l.service l.state;
  ends : g.L.Listener.ends l.fn.share ≤ g.L.Listener.ends l.share;
  faults : g.L.Listener.faults l.fn.share ≤ g.L.Listener.faults l.share;
  few : l.failures < max_failures;
  counted : RoseBy l.failures (g.L.Listener.faults l.fn.share) (g.L.Listener.faults l.share);
}
