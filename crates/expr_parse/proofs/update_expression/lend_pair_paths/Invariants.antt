use Rattle.std.proofs.Common.{◌≡◌, ◌++◌, map, take}
use Rattle.expr_parse.specs.Overlaps.{pointees}
use Rattle.expr_parse.proofs.update_expression.lend_pair_paths.Given as goal

abbrev pub invariant-loop-pair : goal.invariant-loop-pair
invariant-loop-pair l = pointees l.lent.items ≡ pointees l.fn.lent.items ++ map (λ pair. pair.path) (take l.pair-index l.pairs)
