use Rattle.std.proofs.Common.{refl, inl, reverse}
use Rattle.cell_asks.proofs.Trails.{none_asked, no_memory}
use Rattle.batch_calls.proofs.find.find.Goals as goal

pub returns-in_err-places-clause-err : goal.returns-in_err-places-clause-err
returns-in_err-places-clause-err g c =
    no_memory c.from_residual.result _ c.from_residual.ensures.1 (none_asked (g.C.Asks.count c.args.cells.now) (g.C.Asks.seen c.args.pass.now))

pub returns-in-Some-clause-ok : goal.returns-in-Some-clause-ok
returns-in-Some-clause-ok g c =
    let admit = rw c.in-Some.is at c.in_ok-places.ensures in record {
      looked = inl refl;
      tables = admit.tables;
      known = admit.known (reverse (g.C.Asks.seen c.args.pass.now).front) c.requires.told;
      free = admit.free;
      placed = admit.placed;
    }
