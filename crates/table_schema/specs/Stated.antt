-- The names in the keys of indexes.
use Rattle.std.specs.Prelude.{ℕ, Bool, List, map}
use Rattle.std.specs.List.{list_any}
use Rattle.table_schema.specs.declared.stated.StatedIndex.{StatedIndex}
use Rattle.table_schema.specs.NameSet.{has}

-- whether the name is in the key of one of the indexes
abbrev pub in_keys : List ℕ → List StatedIndex → Bool
in_keys name indexes = list_any (λ i. has (map (λ e. e.name) i.keys) name) indexes
