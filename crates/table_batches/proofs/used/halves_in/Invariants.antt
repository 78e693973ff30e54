use Rattle.std.proofs.Common.{◌≡◌, ◌≤◌, ◌+◌, ◌-◌, ◌^◌, sum_by, drop}
use Rattle.capacity.specs.Units.{counted}
use Rattle.table_model.specs.Batches.{write_halves_in}
use Rattle.numbered_tables.specs.Tables.{table_in}
use Rattle.table_batches.proofs.used.halves_in.Given as goal

-- what is counted and what is left are all
abbrev pub invariant-loop-write : goal.invariant-loop-write
invariant-loop-write l = record {
  sum :
      counted (l.halves + sum_by (write_halves_in (table_in l.table)) (drop l.write-index l.writes))
      ≡ counted (sum_by (write_halves_in (table_in l.table)) l.writes);
  within : l.halves ≤ 2 ^ 64 - 1;
}
