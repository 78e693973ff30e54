use Rattle.std.proofs.Common.{◌≡◌, ◌-◌, ◌^◌, min, sum_by, take}
use Rattle.api_request.specs.Transactions.{value_size}
use Rattle.api_request.proofs.action.values_size.Given as goal

abbrev pub invariant-loop-value : goal.invariant-loop-value
invariant-loop-value l = l.total ≡ min (sum_by value_size (take l.value-index l.values)) (2 ^ 64 - 1)
