use Rattle.std.proofs.Common.{◌≡◌, ◌≤◌, ◌+◌, min, drop, filter, not, sum_by}
use Rattle.ordered_set.specs.Sets.{has}
use Rattle.item_writes.proofs.union.other_bytes.Given as goal

abbrev pub invariant-loop-element : goal.invariant-loop-element
invariant-loop-element g l =
    (l.total ≤ l.limit)
    × (min (l.total + sum_by g.T.Measured.size (filter (λ x. not (has g.T.Ord.cmp x l.set)) (drop l.element-index l.elements))) l.limit
    ≡ min (sum_by g.T.Measured.size (filter (λ x. not (has g.T.Ord.cmp x l.set)) l.elements)) l.limit)
