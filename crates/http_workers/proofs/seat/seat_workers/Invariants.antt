use Rattle.std.proofs.Common.{◌≡◌, ◌≤◌, ◌+◌, ◌++◌, length, vec_capacity}
use Rattle.http_workers.specs.Steps.{workers_of, helpers_of, states_of, clocks_of, shares_of}
use Rattle.http_workers.proofs.seat.seat_workers.Given as goal

abbrev pub decreases-loop-state : goal.decreases-loop-state
decreases-loop-state g l = length l.states.items

abbrev pub invariant-loop-state : goal.invariant-loop-state
invariant-loop-state g l = record {
  states : states_of (workers_of l.seats.items) ++ l.states.items ≡ l.fn.states.items;
  clocks : clocks_of (workers_of l.seats.items) ++ l.clocks.items ≡ l.fn.clocks.items;
  shares : shares_of (workers_of l.seats.items) ++ l.shares.items ≡ l.fn.shares.items;
  as_many_clocks : length l.clocks.items ≡ length l.states.items;
  as_many_shares : length l.shares.items ≡ length l.states.items;
  as_many_readers : length l.readers.items ≡ length l.states.items;
  helpers : helpers_of l.seats.items ≡ helpers_of l.fn.seats.items;
  room : length l.seats.items + length l.states.items ≤ vec_capacity l.seats;
}
