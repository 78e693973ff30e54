use Rattle.std.proofs.Common.{reverse}
use Rattle.cell_asks.specs.Told.{AreTold}
use Rattle.call_cases.proofs.sessions.are_right.Given as goal

abbrev pub invariant-loop-line : goal.invariant-loop-line
invariant-loop-line g l = record {
  tables : g.C.Asks.fits l.cells l.tables;
  items : g.C.Asks.fits l.cells l.items;
  told : AreTold (reverse (g.C.Asks.seen l.items).front) l.looks;
}
