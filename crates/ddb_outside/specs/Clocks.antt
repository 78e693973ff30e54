-- What looks at a clock give.
use Rattle.std.specs.Prelude.{◌≡◌, ℕ, ◌+◌, ◌-◌, min, ⊤, Option, None, Some, List, length, slice_index}

-- a look gives the first of the known moments, and the others move up
abbrev pub Looks : Option (ℕ → ℕ) → Option (ℕ → ℕ) → ℕ → Type 0
Looks None new moment = ⊤
Looks (Some coming) None moment = ⊥
Looks (Some coming) (Some later) moment = (moment ≡ coming 0) × ((k : ℕ) → later k ≡ coming (k + 1))

-- the moment at a place of a list whose last moment repeats; 0 where the list has none
abbrev pub repeating : List ℕ → ℕ → ℕ
repeating moments k = slice_index moments (min k (length moments - 1))
