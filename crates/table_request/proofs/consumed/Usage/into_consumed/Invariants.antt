use Rattle.std.proofs.Common.{◌≡◌, map}
use Rattle.table_request.specs.Usage.{consumed_of}
use Rattle.table_request.proofs.consumed.Usage.into_consumed.Given as goal

abbrev pub invariant-loop-table : goal.invariant-loop-table
invariant-loop-table l = l.consumed ≡ map consumed_of l.yielded
