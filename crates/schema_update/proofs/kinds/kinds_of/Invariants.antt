use Rattle.std.proofs.Common.{◌≡◌, ◌++◌, ℕ, List, drop}
use Rattle.table_schema.specs.Kind.{kind_of}
use Rattle.schema_update.proofs.kinds.kinds_of.Given as goal

abbrev pub invariant-loop-definition : goal.invariant-loop-definition
invariant-loop-definition l = (n : List ℕ) → kind_of n (l.kinds ++ drop l.definition-index l.definitions) ≡ kind_of n l.definitions
