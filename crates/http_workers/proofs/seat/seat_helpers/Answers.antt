use Rattle.std.proofs.Common.{arith, ap, length, length-append}
use Rattle.http_workers.proofs.Seats.{still_no_worker, helper_more}
use Rattle.http_workers.proofs.seat.seat_helpers.Goals as goal

pub loop-helper-preserved : goal.loop-helper-preserved
loop-helper-preserved g c = record {
  workers = still_no_worker c.loop-helper.seats.items _ _ c.in-Ok.ensures.items c.loop-helper.invariant.workers;
  helpers = helper_more c.loop-helper.seats.items _ _ _ _ _ c.in-Ok.ensures.items c.in-Some.ensures.items c.loop-helper.invariant.helpers;
  taken = omega (
    arith,
    c.loop-helper.invariant.taken,
    ap length c.in-Some.ensures.items,
    simp length-append at (ap length c.in-Ok.ensures.items),
  );
  capacity = omega (arith, c.loop-helper.invariant.capacity, c.in-Ok.ensures.capacity);
  room = omega (
    arith,
    c.loop-helper.invariant.room,
    ap length c.in-Some.ensures.items,
    simp length-append at (ap length c.in-Ok.ensures.items),
    c.in-Ok.ensures.capacity,
  );
}
