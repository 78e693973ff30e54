use Rattle.std.proofs.Common.{◌≡◌, map, drop}
use Rattle.table_model.specs.Database.{first}
use Rattle.table_model.specs.Transactions.{updates_key}
use Rattle.transact_writes.specs.Aimed.{database_of, action_in}
use Rattle.transact_writes.proofs.aim.key_update.Given as goal

abbrev pub invariant-loop-aimed : goal.invariant-loop-aimed
invariant-loop-aimed l =
    first (map (updates_key (database_of l.tables.entries)) (map action_in (drop l.aimed-index l.aimed)))
    ≡ first (map (updates_key (database_of l.tables.entries)) (map action_in l.aimed))
