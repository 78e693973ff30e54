use Rattle.std.proofs.Common.{drop}
use Rattle.api_request.proofs.Operations.{Miss}
use Rattle.api_request.proofs.operation.with_name.Given as goal

-- the name, where none that is left has it, is of none at all
abbrev pub invariant-loop-operation : goal.invariant-loop-operation
invariant-loop-operation l = Miss (drop l.operation-index l.operation-items) l.name → Miss l.operation-items l.name
