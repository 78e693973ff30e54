use Rattle.std.proofs.Common.{◌≡◌, drop}
use Rattle.update_eval.specs.Actions.{remove_writes, with_writes}
use Rattle.update_eval.specs.Views.{seen_writes}
use Rattle.update_eval.proofs.update.push_removes.Given as goal

abbrev pub invariant-loop-path : goal.invariant-loop-path
invariant-loop-path l =
    with_writes (remove_writes l.old) (drop l.path-index l.removes) (seen_writes l.writes.items)
    ≡ with_writes (remove_writes l.old) l.removes (seen_writes l.fn.writes.items)
