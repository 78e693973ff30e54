use Rattle.std.proofs.Common.{reverse}
use Rattle.cell_asks.specs.Told.{AreTold}
use Rattle.table_load.specs.Sending.{InVain}
use Rattle.table_load.proofs.asking.ask.Given as goal

abbrev pub invariant-loop : goal.invariant-loop
invariant-loop g l = record {
  fits : g.C.Asks.fits l.cells l.pass;
  told : AreTold (reverse (g.C.Asks.seen l.pass).front) l.looks;
  vain : InVain (g.C.Asks.count l.cells) (g.C.Asks.seen l.fn.pass) (g.C.Asks.seen l.pass);
}
