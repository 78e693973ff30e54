-- Entries with what is found for them.
use Rattle.std.specs.Prelude.{◌≡◌, List, [], ◌∷◌, true, Option, None, Some, is_some}
use Rattle.std.specs.List.{AllByRecursion}

-- an entry of the key, where something is there, before others
abbrev pub entry_if : {K Y : Type 0} → K → Option Y → List (K × Y) → List (K × Y)
entry_if key None others = others
entry_if key (Some there) others = (key, there) ∷ others

-- the keys for which something is found, each with it
abbrev pub found_for : {K X Y : Type 0} → (K × X → Option Y) → List (K × X) → List (K × Y)
found_for look [] = []
found_for look (entry ∷ entries) = entry_if entry.0 (look entry) (found_for look entries)

-- something is found for each
abbrev pub AllFound : {K X Y : Type 0} → (K × X → Option Y) → List (K × X) → Type 0
AllFound look entries = AllByRecursion (λ entry. is_some (look entry) ≡ true) entries
