-- A coefficient and a power of ten, as the code computes with them.
use Rattle.std.specs.Prelude.{ℕ, ◌*◌, ◌^◌, ℤ}
use Rattle.number38.specs.Number.{signed}
use Rattle.number38.specs.declared.scaled.Scaled.{Scaled}

-- the whole number without its sign
abbrev pub magnitude : Scaled → ℕ
magnitude s = s.coefficient * 10 ^ s.power

-- the whole number
abbrev pub whole : Scaled → ℤ
whole s = signed s.negative (magnitude s)
