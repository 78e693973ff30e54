use Rattle.std.proofs.Common.{◌≡◌, ◌≤◌, ◌+◌, ◌++◌, length}
use Rattle.std.specs.Vec.Iter.{into_iter_items}
use Rattle.index_changes.proofs.queue.queue_all.Given as goal

abbrev pub invariant-loop-change : goal.invariant-loop-change
invariant-loop-change g l = record {
  waiting : l.outbox.waiting.items ++ into_iter_items l.change-iterator ≡ l.fn.outbox.waiting.items ++ l.fn.changes.items;
  sent : l.outbox.sent ≡ l.fn.outbox.sent;
  rest : l.outbox.set_aside + length l.fn.changes.items ≡ l.fn.outbox.set_aside + length (into_iter_items l.change-iterator);
  room : length (into_iter_items l.change-iterator) ≤ l.outbox.set_aside;
}
