-- A number is the whole number that is its value times 10^167.
use Rattle.std.specs.Prelude.{◌≡◌, ℕ, ◌+◌, ◌-◌, ◌*◌, ◌%◌, ◌^◌, ◌<◌, ◌≤◌, Bool, true, false, ◌||◌, ◌&&◌, if◌then◌else◌, ◌==◌, nat_lt, nat_le, ℤ, pos, negsuc, neg_ℤ, ◌-ℤ◌, ◌≤ℤ◌, unsigned_abs, Result, Ok, Err}
use Rattle.number38.specs.Digits.{trailing_zeros, significand, significant_digits}
use Rattle.number38.specs.declared.number.Number.TheInside.{Inside}
use Rattle.number38.specs.declared.number.NumberFault.{NumberFault}
use Rattle.number38.specs.declared.number.NumberFault.TheVariants.{TooManyDigits, OutOfRange}

-- n, or -n where the sign is negative
abbrev pub signed : Bool → ℕ → ℤ
signed false n = pos n
signed true n = neg_ℤ (pos n)

abbrev pub is_negative : ℤ → Bool
is_negative (pos n) = false
is_negative (negsuc n) = true

-- 1E-130, the least magnitude above 0
unfoldable pub least : ℕ
least = 10 ^ 37

-- 1E126, which is above every magnitude
unfoldable pub limit : ℕ
limit = 10 ^ 293

-- a magnitude from 1E-130 to 9.99E125
abbrev pub is_in_range : ℕ → Bool
is_in_range n = nat_le least n && nat_lt n limit

-- what is answered for the whole number z: z itself, or the first fault
unfoldable pub fitted : ℤ → Result ℤ NumberFault
fitted z = let n = unsigned_abs z in
    if nat_lt 38 (significant_digits n) then Err TooManyDigits else (if n == 0 || is_in_range n then Ok z else Err OutOfRange)

-- the power of ten of the coefficient in the whole number: the exponent and 167
abbrev pub power_of : ℤ → ℕ
power_of (pos n) = n + 167
power_of (negsuc n) = 166 - n

-- the whole number that the fields stand for
abbrev pub whole_of : Inside → ℤ
whole_of a = signed a.negative (a.coefficient * 10 ^ power_of a.exponent)

-- One choice of fields for each number: the coefficient has at most 38 digits and ends in no zero, and 0 has one form.
pub record IsCanonical (a : Inside) : Type 0 where
  pub digits : a.coefficient < 10 ^ 38
  pub stripped : 0 < a.coefficient → 0 < a.coefficient % 10
  pub zero_exponent : a.coefficient ≡ 0 → a.exponent ≡ pos 0
  pub zero_sign : a.coefficient ≡ 0 → a.negative ≡ false
  pub low : neg_ℤ (pos 167) ≤ℤ a.exponent
  pub high : a.exponent ≤ℤ pos 125
  pub least : 0 < a.coefficient → least ≤ a.coefficient * 10 ^ power_of a.exponent
  pub below_limit : a.coefficient * 10 ^ power_of a.exponent < limit

-- the fields of a whole number
abbrev pub exponent_of : ℕ → ℤ
exponent_of n = if n == 0 then pos 0 else pos (trailing_zeros n) -ℤ pos 167

abbrev pub canonical : ℤ → Inside
canonical z = record { negative = is_negative z; coefficient = significand (unsigned_abs z); exponent = exponent_of (unsigned_abs z) }
