use Rattle.std.proofs.Common.{◌≡◌, ◌++◌, take}
use Rattle.expr_parse.specs.Overlaps.{pointees}
use Rattle.expr_parse.proofs.overlap.lend_paths.Given as goal

abbrev pub invariant-loop-path : goal.invariant-loop-path
invariant-loop-path l = pointees l.lent.items ≡ pointees l.fn.lent.items ++ take l.path-index l.paths
