use Rattle.std.proofs.Common.{◌≡◌, drop, map}
use Rattle.table_model.specs.Database.{first}
use Rattle.table_model.specs.Batches.{missing}
use Rattle.table_batches.specs.Answers.{tables_alone}
use Rattle.table_batches.proofs.missing.missing.Given as goal

-- the first refusal of what is left is the first of all
abbrev pub invariant-loop-asked : goal.invariant-loop-asked
invariant-loop-asked g l =
    first (map (λ t. missing (tables_alone l.tables.entries) (g.T.OnTable.table_of t)) (drop l.asked-index l.requests))
    ≡ first (map (λ t. missing (tables_alone l.tables.entries) (g.T.OnTable.table_of t)) l.requests)
