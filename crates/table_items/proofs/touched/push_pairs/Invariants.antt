use Rattle.std.proofs.Common.{◌≡◌, ◌++◌, map, take}
use Rattle.table_items.specs.Touched.{steps_of}
use Rattle.table_items.proofs.touched.push_pairs.Given as goal

abbrev pub invariant-loop-pair : goal.invariant-loop-pair
invariant-loop-pair l = steps_of l.paths.items ≡ steps_of l.fn.paths.items ++ map (λ pair. pair.path.steps) (take l.pair-index l.pairs)
