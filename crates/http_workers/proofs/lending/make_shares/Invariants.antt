use Rattle.std.proofs.Common.{◌≡◌, ◌≤◌, length, vec_capacity}
use Rattle.http_workers.specs.Steps.{MakesShares}
use Rattle.http_workers.proofs.lending.make_shares.Given as goal

abbrev pub invariant-loop : goal.invariant-loop
invariant-loop g l = record {
  made : MakesShares g.L.Listener.connections (g.L.Listener.connections l.fn.listener) (g.L.Listener.connections l.listener)
      l.shares.items;
  count : length l.shares.items ≡ l.counter;
  below : l.counter ≤ l.count;
  room : l.count ≤ vec_capacity l.shares;
  faults : g.L.Listener.faults l.fn.listener ≤ g.L.Listener.faults l.listener;
  ends : g.L.Listener.ends l.fn.listener ≤ g.L.Listener.ends l.listener;
}
