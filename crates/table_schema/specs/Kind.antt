-- The types of attributes.
use Rattle.std.specs.Prelude.{ℕ, List, [], ◌∷◌, Option, None, Some, bytes_eq, if◌then◌else◌}
use Rattle.table_schema.specs.declared.definition.Definition.{Definition}
use Rattle.table_schema.specs.declared.definition.KeyKind.{KeyKind}

-- the type that the first definition of this name gives
abbrev pub kind_of : List ℕ → List Definition → Option KeyKind
kind_of name [] = None
kind_of name (definition ∷ others) = if bytes_eq definition.name name then Some definition.kind else kind_of name others
