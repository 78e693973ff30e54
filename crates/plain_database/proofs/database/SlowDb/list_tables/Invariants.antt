use Rattle.std.proofs.Common.{ℕ, List, map}
use Rattle.table_model.specs.Database.{Table}
use Rattle.plain_database.proofs.Listing.{IsListed}
use Rattle.plain_database.proofs.database.SlowDb.list_tables.Given as goal

abbrev pub invariant-loop-name : goal.invariant-loop-name
invariant-loop-name l =
    IsListed l.request.after l.request.limit (map (λ (e : List ℕ × Table). e.0) l.self.tables) l.names l.name-iterator
