use Rattle.std.proofs.Common.{◌≡◌, drop}
use Rattle.update_eval.specs.Actions.{delete_writes, with_writes}
use Rattle.update_eval.specs.Views.{seen_writes}
use Rattle.update_eval.proofs.update.push_deletes.Given as goal

abbrev pub invariant-loop-delete : goal.invariant-loop-delete
invariant-loop-delete l =
    with_writes (delete_writes l.values l.old) (drop l.delete-index l.deletes) (seen_writes l.writes.items)
    ≡ with_writes (delete_writes l.values l.old) l.deletes (seen_writes l.fn.writes.items)
