use Rattle.std.proofs.Common.{◌≡◌, ◌≤◌, ◌++◌, length, drop}
use Rattle.batch_calls.specs.Writes.{used_among}
use Rattle.batch_calls.proofs.told.used.Given as goal

abbrev pub invariant-loop-asked : goal.invariant-loop-asked
invariant-loop-asked l = record {
  all : l.used ++ used_among (drop l.asked-index l.requests) (drop l.start l.wrotes) ≡ used_among l.requests l.wrotes;
  within : l.start ≤ length l.wrotes;
}
