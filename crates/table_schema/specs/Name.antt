-- What tables, indexes and key attributes may be called.
use Rattle.std.specs.Prelude.{◌≡◌, ℕ, ◌≤◌, ◌⊎◌, List, length, All}
use Rattle.std.specs.Char.{IsAsciiAlphanumeric}

-- a letter, a digit, '_', '.' or '-'
abbrev pub IsNameByte : ℕ → Type 0
IsNameByte byte = IsAsciiAlphanumeric byte ⊎ ((byte ≡ 95) ⊎ ((byte ≡ 46) ⊎ (byte ≡ 45)))

-- what a table or an index may be called: 3 to 255 of these bytes
abbrev pub IsTableName : List ℕ → Type 0
IsTableName name = (3 ≤ length name) × (length name ≤ 255) × All IsNameByte name

-- what a key attribute may be called: 1 to 255 bytes of any text
abbrev pub IsAttributeName : List ℕ → Type 0
IsAttributeName name = (1 ≤ length name) × (length name ≤ 255)
