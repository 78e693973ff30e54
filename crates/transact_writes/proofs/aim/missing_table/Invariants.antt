use Rattle.std.proofs.Common.{◌≡◌, map, drop}
use Rattle.table_model.specs.Database.{first}
use Rattle.table_model.specs.Batches.{missing}
use Rattle.transact_writes.specs.Aimed.{database_of}
use Rattle.transact_writes.proofs.aim.missing_table.Given as goal

abbrev pub invariant-loop-action : goal.invariant-loop-action
invariant-loop-action l =
    first (map (λ action. missing (database_of l.tables.entries) action.table) (drop l.action-index l.actions))
    ≡ first (map (λ action. missing (database_of l.tables.entries) action.table) l.actions)
