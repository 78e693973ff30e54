-- The names of a key's attributes.
use Rattle.std.specs.Prelude.{ℕ, List, Bool, false, ◌||◌, Option, None, Some, bytes_eq}
use Rattle.table_schema.specs.declared.keys.KeyNames.{KeyNames}

abbrev pub is_sort_name : Option (List ℕ) → List ℕ → Bool
is_sort_name None name = false
is_sort_name (Some sort) name = bytes_eq sort name

-- whether the name is the partition key's or the sort key's
abbrev pub is_key_name : KeyNames → List ℕ → Bool
is_key_name keys name = bytes_eq keys.partition name || is_sort_name keys.sort name
