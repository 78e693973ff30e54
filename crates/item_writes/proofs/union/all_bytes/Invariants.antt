use Rattle.std.proofs.Common.{◌≡◌, ◌≤◌, ◌+◌, min, drop, sum_by}
use Rattle.item_writes.proofs.union.all_bytes.Given as goal

abbrev pub invariant-loop-element : goal.invariant-loop-element
invariant-loop-element g l =
    (l.total ≤ l.limit) × (min (l.total + sum_by g.T.Measured.size (drop l.element-index l.elements)) l.limit ≡ min (sum_by g.T.Measured.size l.elements) l.limit)
