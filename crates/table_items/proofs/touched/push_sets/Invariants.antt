use Rattle.std.proofs.Common.{◌≡◌, ◌++◌, map, take}
use Rattle.expr_words.specs.Trees.{set_tree}
use Rattle.table_items.specs.Touched.{steps_of}
use Rattle.table_items.proofs.touched.push_sets.Given as goal

abbrev pub invariant-loop-set : goal.invariant-loop-set
invariant-loop-set l = steps_of l.paths.items ≡ steps_of l.fn.paths.items ++ map (λ set. set.path.steps) (map set_tree (take l.set-index l.sets))
