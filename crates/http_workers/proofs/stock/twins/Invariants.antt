use Rattle.std.proofs.Common.{◌≡◌, ◌≤◌, All, length}
use Rattle.http_workers.proofs.stock.twins.Given as goal

abbrev pub invariant-loop : goal.invariant-loop
invariant-loop g l = record {
  count : length l.made.items ≡ l.counter;
  below : l.counter ≤ l.count;
  twins : All (λ c. g.C.Clock.coming c ≡ g.C.Clock.coming l.clock) l.made.items;
}
