use Rattle.std.proofs.Common.{◌+◌, ◌-◌, ◌^◌, ◌<◌}
use Rattle.page_calls.proofs.Parts.{Gathering}
use Rattle.page_calls.proofs.gather.gather.Given as goal

abbrev pub invariant-cells : goal.invariant-cells
invariant-cells g l = record {
  so_far : Gathering (g.C.Asks.count l.cells) (g.C.Asks.seen l.fn.pass) l.fn.first l.behind l.left l.question l.rows.items (g.C.Asks.seen l.pass);
  within : l.question.cell + l.left < 2 ^ 32 - 1;
  fits : g.C.Asks.fits l.cells l.pass;
}

abbrev pub decreases-cells : goal.decreases-cells
decreases-cells g l = l.left
