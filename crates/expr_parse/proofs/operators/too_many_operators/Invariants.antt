use Rattle.std.proofs.Common.{◌≡◌, ◌+◌, drop, map, sum_by}
use Rattle.expr_words.specs.Trees.{set_tree}
use Rattle.expr_parse.specs.UpdateTree.{set_operators}
use Rattle.expr_parse.proofs.operators.too_many_operators.Given as goal

abbrev pub invariant-loop-set : goal.invariant-loop-set
invariant-loop-set l = sum_by set_operators (map set_tree (drop l.set-index l.sets)) + 300 ≡ sum_by set_operators (map set_tree l.sets) + l.left
