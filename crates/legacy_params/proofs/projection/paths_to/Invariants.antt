use Rattle.std.proofs.Common.{◌≡◌, ◌++◌, map}
use Rattle.std.specs.Vec.Iter.{into_iter_items}
use Rattle.legacy_params.specs.Trees.{path_to}
use Rattle.legacy_params.proofs.projection.paths_to.Given as goal

abbrev pub invariant-loop-name : goal.invariant-loop-name
invariant-loop-name l = (l.paths ++ map path_to (into_iter_items l.name-iterator)) ≡ map path_to l.fn.names
