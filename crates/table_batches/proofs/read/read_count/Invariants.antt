use Rattle.std.proofs.Common.{◌≡◌, ◌≤◌, ◌+◌, drop, map}
use Rattle.std.specs.Option.{option_copied}
use Rattle.table_model.specs.Batches.{most_batch_bytes, read_count}
use Rattle.table_batches.proofs.read.read_count.Given as goal

abbrev pub invariant-loop-read : goal.invariant-loop-read
invariant-loop-read l = record {
  counted : l.read + read_count l.room (map option_copied (drop l.read l.items)) ≡ read_count most_batch_bytes (map option_copied l.items);
  few : l.room ≤ most_batch_bytes;
}
