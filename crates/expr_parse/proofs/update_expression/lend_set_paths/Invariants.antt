use Rattle.std.proofs.Common.{◌≡◌, ◌++◌, map, take}
use Rattle.expr_parse.specs.Overlaps.{pointees}
use Rattle.expr_parse.proofs.update_expression.lend_set_paths.Given as goal

abbrev pub invariant-loop-set : goal.invariant-loop-set
invariant-loop-set l = pointees l.lent.items ≡ pointees l.fn.lent.items ++ map (λ set. set.path) (take l.set-index l.sets)
