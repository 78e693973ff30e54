use Rattle.std.proofs.Common.{◌≡◌, [], map, drop}
use Rattle.table_request.specs.Usage.{with_uses}
use Rattle.transact_reads.specs.Told.{used_in}
use Rattle.transact_reads.proofs.told.used.Given as goal

abbrev pub invariant-loop-one : goal.invariant-loop-one
invariant-loop-one g l =
    with_uses l.usage (map (λ one. used_in (g.R.ItemRead.read_in one) (g.R.ItemRead.item_in one)) (drop l.one-index l.all))
    ≡ with_uses [] (map (λ one. used_in (g.R.ItemRead.read_in one) (g.R.ItemRead.item_in one)) l.all)
