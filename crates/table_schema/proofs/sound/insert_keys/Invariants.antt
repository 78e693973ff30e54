use Rattle.std.proofs.Common.{◌≡◌, ℕ, List, ◌||◌, length}
use Rattle.table_schema.specs.NameSet.{has}
use Rattle.table_schema.specs.Stated.{in_keys}
use Rattle.table_schema.proofs.sound.insert_keys.Given as goal

abbrev pub invariant-loop-first : goal.invariant-loop-first
invariant-loop-first l =
    (n : List ℕ) → (in_keys n l.rest || has l.names n) ≡ (in_keys n l.fn.indexes || has l.fn.names n)

abbrev pub decreases-loop-first : goal.decreases-loop-first
decreases-loop-first l = length l.rest
