-- The decimal digits of a natural number.
use Rattle.std.specs.Prelude.{ℕ, zero, suc, ◌/◌, ◌%◌, ◌^◌, if◌then◌else◌, ◌==◌, length}
use Rattle.std.specs.Int.Digits.{digits_of}

-- how many zeros n ends with, at most the first argument
abbrev pub zeros_within : ℕ → ℕ → ℕ
zeros_within zero n = 0
zeros_within (suc most) n = if n % 10 == 0 then suc (zeros_within most (n / 10)) else 0

-- how many zeros n ends with; 0 ends with none
unfoldable pub trailing_zeros : ℕ → ℕ
trailing_zeros n = if n == 0 then 0 else zeros_within n n

-- n without the zeros that it ends with
unfoldable pub significand : ℕ → ℕ
significand n = n / 10 ^ trailing_zeros n

-- how many digits n has without the zeros that it ends with; 0 has none
unfoldable pub significant_digits : ℕ → ℕ
significant_digits n = length (digits_of 10 (significand n))
