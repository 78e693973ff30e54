use Rattle.std.proofs.Common.{◌≤◌, ◌⊎◌, Option, length, map}
use Rattle.ddb_outside.specs.Causes.{Rose}
use Rattle.ddb_outside.specs.Listeners.{Connections}
use Rattle.http_workers.specs.Steps.{AbsorbsShares, HasLentAll, IsCounted}
use Rattle.http_workers.proofs.lending.take_back.Given as goal

abbrev pub decreases-loop-share : goal.decreases-loop-share
decreases-loop-share g l = length l.left.items

abbrev pub invariant-loop-share : goal.invariant-loop-share
invariant-loop-share g l = record {
  absorbed : (new : Option Connections)
      → AbsorbsShares g.L.Listener.connections (g.L.Listener.connections l.listener) new l.left.items
      → AbsorbsShares g.L.Listener.connections (g.L.Listener.connections l.fn.listener) new l.fn.shares.items;
  lent : HasLentAll (g.L.Listener.connections l.listener) (map g.L.Listener.connections l.left.items);
  faults : g.L.Listener.faults l.fn.listener ≤ g.L.Listener.faults l.listener;
  ends : g.L.Listener.ends l.fn.listener ≤ g.L.Listener.ends l.listener;
  share_faults : IsCounted g.L.Listener.faults l.fn.shares.items
      → Rose (g.L.Listener.faults l.fn.listener) (g.L.Listener.faults l.listener) ⊎ IsCounted g.L.Listener.faults l.left.items;
  share_ends : IsCounted g.L.Listener.ends l.fn.shares.items
      → Rose (g.L.Listener.ends l.fn.listener) (g.L.Listener.ends l.listener) ⊎ IsCounted g.L.Listener.ends l.left.items;
}
