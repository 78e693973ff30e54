use Rattle.std.proofs.Common.{◌≡◌, ◌-◌, ◌^◌, min, sum_by, take}
use Rattle.api_request.specs.Transactions.{read_size}
use Rattle.api_request.proofs.action.read_total.Given as goal

abbrev pub invariant-loop-action : goal.invariant-loop-action
invariant-loop-action l = l.total ≡ min (sum_by read_size (take l.action-index l.actions)) (2 ^ 64 - 1)
