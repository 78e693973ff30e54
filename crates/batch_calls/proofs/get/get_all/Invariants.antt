use Rattle.std.specs.Vec.Iter.{into_iter_items}
use Rattle.batch_calls.proofs.KeysRead.{ReadSoFar}
use Rattle.batch_calls.proofs.get.get_all.Given as goal

abbrev pub invariant-loop-place : goal.invariant-loop-place
invariant-loop-place g l = record {
  far : ReadSoFar (g.C.Asks.count l.cells) (g.C.Asks.seen l.fn.pass) l.fn.places (into_iter_items l.place-iterator) l.reading (g.C.Asks.seen l.pass);
  fits : g.C.Asks.fits l.cells l.pass;
}
