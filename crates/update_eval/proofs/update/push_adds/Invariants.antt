use Rattle.std.proofs.Common.{◌≡◌, drop}
use Rattle.update_eval.specs.Actions.{add_writes, with_writes}
use Rattle.update_eval.specs.Views.{seen_writes}
use Rattle.update_eval.proofs.update.push_adds.Given as goal

abbrev pub invariant-loop-add : goal.invariant-loop-add
invariant-loop-add l =
    with_writes (add_writes l.values l.old) (drop l.add-index l.adds) (seen_writes l.writes.items)
    ≡ with_writes (add_writes l.values l.old) l.adds (seen_writes l.fn.writes.items)
