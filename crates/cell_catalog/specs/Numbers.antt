-- The numbers of the indexes that stay.
use Rattle.std.specs.Prelude.{ℕ, List, map, filter, Bool, true, not, bytes_eq, Option, None, Some}
use Rattle.table_schema.specs.declared.index.GlobalIndex.{GlobalIndex}

-- the index does not have the name that goes
abbrev pub stays : Option (List ℕ) → GlobalIndex → Bool
stays None index = true
stays (Some name) index = not (bytes_eq index.name name)

-- the numbers of the indexes that stay
abbrev pub numbers_beside : Option (List ℕ) → List (ℕ × GlobalIndex) → List ℕ
numbers_beside gone entries = map (λ entry. entry.0) (filter (λ entry. stays gone entry.1) entries)
