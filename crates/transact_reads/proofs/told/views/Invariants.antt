use Rattle.std.proofs.Common.{◌≡◌, ◌++◌, map, drop}
use Rattle.transact_reads.specs.Told.{shown_in}
use Rattle.transact_reads.proofs.told.views.Given as goal

abbrev pub invariant-loop-one : goal.invariant-loop-one
invariant-loop-one g l =
    l.views ++ map (λ one. shown_in (g.R.ItemRead.read_in one) (g.R.ItemRead.item_in one)) (drop l.one-index l.all)
    ≡ map (λ one. shown_in (g.R.ItemRead.read_in one) (g.R.ItemRead.item_in one)) l.all
