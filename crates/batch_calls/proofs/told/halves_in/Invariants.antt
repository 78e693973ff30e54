use Rattle.std.proofs.Common.{◌≡◌, ◌≤◌, ◌+◌, ◌-◌, ◌^◌, sum_by, drop}
use Rattle.capacity.specs.Units.{counted}
use Rattle.batch_calls.specs.Writes.{halves_used}
use Rattle.batch_calls.proofs.told.halves_in.Given as goal

-- what is counted and what is left are all
abbrev pub invariant-loop-wrote : goal.invariant-loop-wrote
invariant-loop-wrote l = record {
  sum : counted (l.halves + sum_by halves_used (drop l.wrote-index l.wrotes)) ≡ counted (sum_by halves_used l.wrotes);
  within : l.halves ≤ 2 ^ 64 - 1;
}
