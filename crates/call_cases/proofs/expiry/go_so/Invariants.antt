use Rattle.std.proofs.Common.{reverse}
use Rattle.cluster.specs.Steps.{IsAtRest}
use Rattle.cell_asks.specs.Told.{AreTold}
use Rattle.call_cases.proofs.expiry.go_so.Given as goal

abbrev pub invariant-loop-step : goal.invariant-loop-step
invariant-loop-step g l = record {
  tables : IsAtRest l.cells.caller l.tables;
  items : IsAtRest l.cells.caller l.items;
  told : AreTold (reverse l.items.front) l.looks;
}
