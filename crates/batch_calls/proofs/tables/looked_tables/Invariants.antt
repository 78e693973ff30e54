use Rattle.std.proofs.Common.{map, take, reverse}
use Rattle.cell_asks.specs.Told.{AreTold}
use Rattle.batch_calls.specs.Tables.{LooksGive}
use Rattle.batch_calls.proofs.tables.looked_tables.Given as goal

abbrev pub invariant-loop-part : goal.invariant-loop-part
invariant-loop-part g l = record {
  given :
      LooksGive (g.C.Asks.count l.cells) (g.C.Asks.seen l.fn.pass) (map g.T.OnTable.table_of (take l.part-index l.parts)) l.tables.entries (g.C.Asks.seen l.pass);
  told : AreTold (reverse (g.C.Asks.seen l.pass).front) l.looks;
  fits : g.C.Asks.fits l.cells l.pass;
}
