use Rattle.table_load.proofs.Places.{one_more}
use Rattle.table_load.proofs.session.Session.set_up.Goals as goal

pub loop-place-preserved : goal.loop-place-preserved
loop-place-preserved g c = record {
  rests = c.set_up_at.ensures.rests;
  made = one_more _ _ _ _ _ c.loop-place.invariant.made c.in_ok-set_up_at.ensures.ok;
}
