use Rattle.std.proofs.Common.{map, drop, reverse}
use Rattle.cell_asks.specs.Told.{AreTold}
use Rattle.transact_calls.specs.Known.{LooksOn}
use Rattle.transact_calls.proofs.looked.look_up_all.Given as goal

abbrev pub invariant-loop-part : goal.invariant-loop-part
invariant-loop-part g l = record {
  on : LooksOn (g.C.Asks.count l.cells) (g.C.Asks.seen l.fn.pass) (map g.P.OfTable.table_of l.parts) (map g.P.OfTable.table_of (drop l.part-index l.parts)) l.tables.entries (g.C.Asks.seen l.pass);
  told : AreTold (reverse (g.C.Asks.seen l.pass).front) l.looks;
  fits : g.C.Asks.fits l.cells l.pass;
}
