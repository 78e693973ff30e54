use Rattle.std.proofs.Common.{◌≡◌, drop}
use Rattle.std.specs.List.{list_any}
use Rattle.update_eval.specs.Places.{begins_with}
use Rattle.update_eval.proofs.path.paths_begin.Given as goal

abbrev pub invariant-loop-path : goal.invariant-loop-path
invariant-loop-path l = list_any (begins_with l.name) (drop l.path-index l.paths) ≡ list_any (begins_with l.name) l.paths
