use Rattle.std.proofs.Common.{◌≡◌, ◌≤◌, ◌+◌, ◌++◌, length, vec_capacity}
use Rattle.http_workers.specs.Steps.{workers_of, helpers_of, states_of, shares_of}
use Rattle.http_workers.proofs.seat.disband.Given as goal

abbrev pub decreases-loop-seat : goal.decreases-loop-seat
decreases-loop-seat g l = length l.seats.items

abbrev pub invariant-loop-seat : goal.invariant-loop-seat
invariant-loop-seat g l = record {
  states : l.states.items ++ states_of (workers_of l.seats.items) ≡ states_of (workers_of l.fn.seats.items);
  shares : l.shares.items ++ shares_of (workers_of l.seats.items) ≡ shares_of (workers_of l.fn.seats.items);
  helpers : l.helpers.items ++ helpers_of l.seats.items ≡ helpers_of l.fn.seats.items;
  room_for_states : length l.states.items + length (workers_of l.seats.items) ≤ vec_capacity l.states;
  room_for_shares : length l.shares.items + length (workers_of l.seats.items) ≤ vec_capacity l.shares;
  room_for_helpers : length l.helpers.items + length (helpers_of l.seats.items) ≤ vec_capacity l.helpers;
}
