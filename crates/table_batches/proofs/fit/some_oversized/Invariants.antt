use Rattle.std.proofs.Common.{◌≡◌, drop}
use Rattle.std.specs.List.{list_any}
use Rattle.table_model.specs.Batches.{is_oversized}
use Rattle.table_batches.proofs.fit.some_oversized.Given as goal

abbrev pub invariant-loop-asked : goal.invariant-loop-asked
invariant-loop-asked l =
    list_any (λ t. list_any is_oversized t.writes) (drop l.asked-index l.requests) ≡ list_any (λ t. list_any is_oversized t.writes) l.requests
