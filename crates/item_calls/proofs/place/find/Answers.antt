use Rattle.std.proofs.Common.{sym, ◌∙◌}
use Rattle.item_calls.specs.Places.{row_wanted}
use Rattle.cell_asks.proofs.Trails.{none_asked, no_memory}
use Rattle.item_calls.proofs.Places.{placed_kept}
use Rattle.item_calls.proofs.place.find.Goals as goal

pub returns-in_err-key-clause-err : goal.returns-in_err-key-clause-err
returns-in_err-key-clause-err g c =
    no_memory c.from_residual.result _ c.from_residual.ensures.1 (none_asked (g.C.Asks.count c.args.cells.now) (g.C.Asks.seen c.args.pass.now))

pub returns-in-Some-clause-ok : goal.returns-in-Some-clause-ok
returns-in-Some-clause-ok g c =
    placed_kept (g.C.Asks.count c.args.cells.now) (g.C.Asks.seen c.args.pass.now) c.args.name.now (row_wanted c.args.wanted) c.args.looks.now c.requires.told
    c.in-Some.key (sym c.in_ok-key.ensures ∙ c.in-Some.is)
