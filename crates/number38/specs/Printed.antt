-- The one text of each number: plain decimal. A number is the whole number that is its value times 10^167.
use Rattle.std.specs.Prelude.{ℕ, zero, suc, ◌+◌, ◌/◌, ◌%◌, ◌^◌, if◌then◌else◌, ◌==◌, ℤ, unsigned_abs, List, [], ◌∷◌, ◌++◌, map, codes}
use Rattle.std.specs.Int.Digits.{digits_of}
use Rattle.number38.specs.Number.{is_negative}

abbrev pub digits_text : List ℕ → List ℕ
digits_text ds = map (λ d. 48 + d) ds

-- a whole part: no leading zero, and `0` for none
abbrev pub whole_text : ℕ → List ℕ
whole_text n = if n == 0 then codes "0" else digits_text (digits_of 10 n)

-- n in exactly so many digits
abbrev pub padded_text : ℕ → ℕ → List ℕ
padded_text zero n = []
padded_text (suc k) n = padded_text k (n / 10) ++ (48 + n % 10) ∷ []

-- the same without the zeros at its end
abbrev pub trimmed_text : ℕ → ℕ → List ℕ
trimmed_text zero n = []
trimmed_text (suc k) n = if n % 10 == 0 then trimmed_text k (n / 10) else padded_text (suc k) n

-- the digits behind the point, and the point where there are any
abbrev pub point_text : List ℕ → List ℕ
point_text [] = []
point_text (d ∷ ds) = codes "." ++ (d ∷ ds)

-- the text of n, whose last digits, so many, stand behind the point
unfoldable pub text_with : ℕ → ℕ → List ℕ
text_with places n = whole_text (n / 10 ^ places) ++ point_text (trimmed_text places (n % 10 ^ places))

abbrev pub printed : ℤ → List ℕ
printed z = (if is_negative z then codes "-" else []) ++ text_with 167 (unsigned_abs z)
