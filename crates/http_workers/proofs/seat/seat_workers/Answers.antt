use Rattle.std.proofs.Common.{arith, ap, ◌∙◌, length, length-append, ◌∷◌, []}
use Rattle.http_workers.proofs.Seats.{worker_has, same_helpers}
use Rattle.http_workers.proofs.seat.seat_workers.Goals as goal

pub loop-state-preserved : goal.loop-state-preserved
loop-state-preserved g c = record {
  states = worker_has c.loop-state.seats.items _ (λ w. w.state) _ _ _ _ c.in-Ok.ensures.items c.in-Some.ensures.items c.loop-state.invariant.states;
  clocks = worker_has c.loop-state.seats.items _ (λ w. w.clock) _ _ _ _ c.in-Ok.ensures.items c.in-Some-Some-Some.ensures.items c.loop-state.invariant.clocks;
  shares = worker_has c.loop-state.seats.items _ (λ w. w.share) _ _ _ _ c.in-Ok.ensures.items c.in-Some-Some-Some.ensures'.items c.loop-state.invariant.shares;
  as_many_clocks = omega (arith, c.loop-state.invariant.as_many_clocks, ap length c.in-Some.ensures.items, ap length c.in-Some-Some-Some.ensures.items);
  as_many_shares = omega (arith, c.loop-state.invariant.as_many_shares, ap length c.in-Some.ensures.items, ap length c.in-Some-Some-Some.ensures'.items);
  as_many_readers = omega (
    arith,
    c.loop-state.invariant.as_many_readers,
    ap length c.in-Some.ensures.items,
    ap length c.in-Some-Some-Some.ensures''.items ∙ length-append c.pop.new.self.items (c.in-Some-Some-Some.reader ∷ []),
  );
  helpers = same_helpers c.loop-state.seats.items _ _ _ c.in-Ok.ensures.items c.loop-state.invariant.helpers;
  room = omega (
    arith,
    c.loop-state.invariant.room,
    ap length c.in-Some.ensures.items,
    simp length-append at (ap length c.in-Ok.ensures.items),
    c.in-Ok.ensures.capacity,
  );
}
