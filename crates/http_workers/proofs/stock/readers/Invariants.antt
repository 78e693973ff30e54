use Rattle.std.proofs.Common.{◌≡◌, ◌≤◌, length}
use Rattle.http_workers.proofs.stock.readers.Given as goal

abbrev pub invariant-loop : goal.invariant-loop
invariant-loop l = record { count : length l.made.items ≡ l.counter; below : l.counter ≤ l.count }
