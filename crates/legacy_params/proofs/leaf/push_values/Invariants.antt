use Rattle.std.proofs.Common.{◌≡◌, ◌++◌}
use Rattle.std.specs.Vec.Iter.{into_iter_items}
use Rattle.legacy_params.proofs.leaf.push_values.Given as goal

abbrev pub invariant-loop-value : goal.invariant-loop-value
invariant-loop-value l = (l.values ++ into_iter_items l.value-iterator) ≡ (l.fn.values ++ l.fn.listed)
