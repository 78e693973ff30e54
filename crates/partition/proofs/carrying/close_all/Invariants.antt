use Rattle.std.proofs.Common.{◌≡◌, ℕ, None, if◌then◌else◌, drop}
use Rattle.global_index.specs.Rows.{row_under}
use Rattle.index_changes.specs.Commands.{is_in}
use Rattle.partition.proofs.carrying.close_all.Given as goal

abbrev pub invariant-loop-index : goal.invariant-loop-index
invariant-loop-index g l =
    (x : ℕ) (q : _) → (if is_in (drop l.index-index l.closed) x then None else row_under g.K.Ord.cmp l.rows.indexes x q)
    ≡ (if is_in l.closed x then None else row_under g.K.Ord.cmp l.initial.rows.indexes x q)
