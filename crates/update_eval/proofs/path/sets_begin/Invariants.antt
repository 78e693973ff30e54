use Rattle.std.proofs.Common.{◌≡◌, drop, map}
use Rattle.std.specs.List.{list_any}
use Rattle.expr_words.specs.Trees.{SetTree, set_tree}
use Rattle.update_eval.specs.Places.{begins_with}
use Rattle.update_eval.proofs.path.sets_begin.Given as goal

abbrev pub invariant-loop-set : goal.invariant-loop-set
invariant-loop-set l =
    list_any (begins_with l.name) (map (λ (x : SetTree). x.path) (map set_tree (drop l.set-index l.sets)))
    ≡ list_any (begins_with l.name) (map (λ (x : SetTree). x.path) (map set_tree l.sets))
