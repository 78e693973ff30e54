-- Types by name.
use Rattle.std.specs.Prelude.{ℕ, List, map}
use Rattle.std.specs.Borrow.{Bor}
use Rattle.table_schema.specs.declared.definition.Definition.{Definition}
use Rattle.table_schema.specs.declared.definition.KeyKind.{KeyKind}

-- the definitions that names and their types are
abbrev pub definitions_in : List (Bor (List ℕ) × KeyKind) → List Definition
definitions_in entries = map (λ entry. record { name = entry.0.now; kind = entry.1 }) entries
