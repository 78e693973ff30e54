use Rattle.std.specs.Vec.Iter.{into_iter_items}
use Rattle.batch_calls.proofs.Sent.{WroteSoFar}
use Rattle.batch_calls.proofs.write.write_all.Given as goal

abbrev pub invariant-loop-action : goal.invariant-loop-action
invariant-loop-action g l = record {
  far : WroteSoFar (g.C.Asks.count l.cells) (g.C.Asks.seen l.fn.pass) l.fn.actions (into_iter_items l.action-iterator) l.wrotes (g.C.Asks.seen l.pass);
  fits : g.C.Asks.fits l.cells l.pass;
}
