use Rattle.std.proofs.Common.{◌≡◌, drop, map}
use Rattle.expr_words.specs.Trees.{set_tree}
use Rattle.update_eval.specs.Actions.{set_writes, with_writes}
use Rattle.update_eval.specs.Views.{seen_writes}
use Rattle.update_eval.proofs.update.push_each_set.Given as goal

abbrev pub invariant-loop-set : goal.invariant-loop-set
invariant-loop-set l =
    with_writes (set_writes l.sources.values.now l.sources.old.now) (map set_tree (drop l.set-index l.sets)) (seen_writes l.writes.items)
    ≡ with_writes (set_writes l.sources.values.now l.sources.old.now) (map set_tree l.sets) (seen_writes l.fn.writes.items)
