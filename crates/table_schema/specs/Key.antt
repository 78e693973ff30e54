-- Keys as they are stated: lists of attributes with their roles.
use Rattle.std.specs.Prelude.{◌≡◌, ◌≢◌, ℕ, List, [], ◌∷◌, Any, Option, None, Some}
use Rattle.table_schema.specs.declared.keys.KeyNames.{KeyNames}
use Rattle.table_schema.specs.declared.stated.KeyElement.{KeyElement}
use Rattle.table_schema.specs.declared.stated.KeyRole.TheVariants.{Hash, Range}

-- one of the elements has the name
unfoldable pub Names : List KeyElement → List ℕ → Type 0
Names keys name = Any (λ e. e.name ≡ name) keys

-- HASH, or HASH and then RANGE of another attribute (API Reference: CreateTable, KeySchema)
abbrev pub IsKeySchema : List KeyElement → Type 0
IsKeySchema [] = ⊥
IsKeySchema (hash ∷ []) = hash.role ≡ Hash
IsKeySchema (hash ∷ range ∷ []) = (hash.role ≡ Hash) × (range.role ≡ Range) × (hash.name ≢ range.name)
IsKeySchema (hash ∷ range ∷ other ∷ others) = ⊥

-- of a key of an index and the table's: both have a second element, and their first ones have one name
abbrev pub IsLocalTo : List KeyElement → List KeyElement → Type 0
IsLocalTo (hash ∷ range ∷ others) (index_hash ∷ index_range ∷ index_others) = index_hash.name ≡ hash.name
IsLocalTo table index = ⊥

-- the element of a sort key, where there is one
abbrev pub range_of : Option (List ℕ) → List KeyElement
range_of None = []
range_of (Some sort) = record { name = sort; role = Range } ∷ []

-- the list that states these key names
abbrev pub elements_of : KeyNames → List KeyElement
elements_of keys = record { name = keys.partition; role = Hash } ∷ range_of keys.sort
