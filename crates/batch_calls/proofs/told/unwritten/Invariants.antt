use Rattle.std.proofs.Common.{◌≡◌, ◌≤◌, ◌++◌, length, drop}
use Rattle.std.specs.Vec.Iter.{into_iter_items}
use Rattle.batch_calls.specs.Writes.{unwritten}
use Rattle.batch_calls.proofs.told.unwritten.Given as goal

abbrev pub invariant-loop-asked : goal.invariant-loop-asked
invariant-loop-asked l = record {
  all : l.rest ++ unwritten (into_iter_items l.asked-iterator) (drop l.start l.wrotes) ≡ unwritten l.fn.requests l.wrotes;
  within : l.start ≤ length l.wrotes;
}
