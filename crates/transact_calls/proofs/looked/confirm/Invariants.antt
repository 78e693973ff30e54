use Rattle.transact_calls.proofs.Looking.{ConfirmsOn}
use Rattle.transact_calls.proofs.looked.confirm.Given as goal

abbrev pub invariant-loop-name : goal.invariant-loop-name
invariant-loop-name g l = record {
  on : ConfirmsOn (g.C.Asks.count l.cells) (g.C.Asks.seen l.fn.pass) l.tables.entries l.name-iterator (g.C.Asks.seen l.pass);
  fits : g.C.Asks.fits l.cells l.pass;
}
