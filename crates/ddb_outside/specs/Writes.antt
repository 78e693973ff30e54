-- What a text leaves behind that was written, wholly or in part.
use Rattle.std.specs.Prelude.{◌≡◌, ℕ, List, ◌++◌, Option}
use Rattle.std.specs.Io.KnownBytes.{Appends}

-- the known bytes grew by a front of the text
abbrev pub AppendsFront : Option (List ℕ) → Option (List ℕ) → List ℕ → Type 0
AppendsFront old new text = (part : List ℕ) × (rest : List ℕ) × (text ≡ part ++ rest) × Appends old new part
