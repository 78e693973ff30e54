use Rattle.table_load.proofs.Places.{shorter}
use Rattle.table_load.proofs.load.make_clients.Goals as goal

pub loop-pass-smaller : goal.loop-pass-smaller
loop-pass-smaller c = shorter _ _ c.in-Some.pass c.in-Some.ensures.items
