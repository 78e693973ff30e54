use Rattle.std.proofs.Common.{◌≡◌, ◌≤◌, ◌++◌, length, drop, map}
use Rattle.std.specs.Option.{option_copied}
use Rattle.table_batches.specs.Reads.{used_among}
use Rattle.table_batches.proofs.read.used.Given as goal

abbrev pub invariant-loop-asked : goal.invariant-loop-asked
invariant-loop-asked l = record {
  all :
      l.used ++ used_among (drop l.asked-index l.requests) (map option_copied (drop l.start l.items))
      ≡ used_among l.requests (map option_copied l.items);
  within : l.start ≤ length l.items;
}
