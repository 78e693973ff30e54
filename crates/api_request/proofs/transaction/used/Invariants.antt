use Rattle.std.proofs.Common.{◌≡◌, [], map, drop}
use Rattle.table_request.specs.Usage.{with_uses}
use Rattle.api_request.specs.Transactions.{used_by}
use Rattle.api_request.proofs.transaction.used.Given as goal

abbrev pub invariant-loop-action : goal.invariant-loop-action
invariant-loop-action l = with_uses l.usage (map used_by (drop l.action-index l.actions)) ≡ with_uses [] (map used_by l.actions)
