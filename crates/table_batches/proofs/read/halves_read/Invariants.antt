use Rattle.std.proofs.Common.{◌≡◌, ◌≤◌, ◌+◌, ◌-◌, ◌^◌, drop, map}
use Rattle.std.specs.Prelude.{sum_by}
use Rattle.std.specs.Option.{option_copied}
use Rattle.capacity.specs.Units.{counted, read_halves}
use Rattle.table_model.specs.Consumed.{bytes_of}
use Rattle.table_batches.proofs.read.halves_read.Given as goal

abbrev pub invariant-loop-item : goal.invariant-loop-item
invariant-loop-item l = record {
  sum :
      counted (l.halves + sum_by (λ item. read_halves l.mode (bytes_of item)) (map option_copied (drop l.item-index l.items)))
      ≡ counted (sum_by (λ item. read_halves l.mode (bytes_of item)) (map option_copied l.items));
  within : l.halves ≤ 2 ^ 64 - 1;
}
