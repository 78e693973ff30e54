use Rattle.std.proofs.Common.{◌≡◌, ◌++◌}
use Rattle.std.specs.Vec.Iter.{into_iter_items}
use Rattle.table_model.specs.Batches.{unread}
use Rattle.table_batches.proofs.unread.unread.Given as goal

abbrev pub invariant-loop-asked : goal.invariant-loop-asked
invariant-loop-asked l = l.rest ++ unread l.left (into_iter_items l.asked-iterator) ≡ unread l.fn.read l.fn.requests
