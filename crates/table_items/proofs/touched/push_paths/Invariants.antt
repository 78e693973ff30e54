use Rattle.std.proofs.Common.{◌≡◌, ◌++◌, map, take}
use Rattle.table_items.specs.Touched.{steps_of}
use Rattle.table_items.proofs.touched.push_paths.Given as goal

abbrev pub invariant-loop-path : goal.invariant-loop-path
invariant-loop-path l = steps_of l.paths.items ≡ steps_of l.fn.paths.items ++ map (λ path. path.steps) (take l.path-index l.removes)
