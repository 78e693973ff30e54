use Rattle.std.proofs.Common.{◌≡◌, ◌≤◌, ◌+◌, ◌++◌, [], length, vec_capacity}
use Rattle.http_workers.specs.Steps.{workers_of, helpers_of}
use Rattle.http_workers.proofs.seat.seat_helpers.Given as goal

abbrev pub decreases-loop-helper : goal.decreases-loop-helper
decreases-loop-helper g l = length l.helpers.items

abbrev pub invariant-loop-helper : goal.invariant-loop-helper
invariant-loop-helper g l = record {
  workers : workers_of l.seats.items ≡ [];
  helpers : helpers_of l.seats.items ++ l.helpers.items ≡ l.fn.helpers.items;
  taken : length l.seats.items + length l.helpers.items ≡ length l.fn.helpers.items;
  room : length l.seats.items + length l.helpers.items ≤ vec_capacity l.seats;
  capacity : vec_capacity l.fn.seats ≤ vec_capacity l.seats;
}
