-- The texts that denote numbers.
use Rattle.std.specs.Prelude.{◌≡◌, ℕ, ◌+◌, ◌*◌, ◌/◌, ◌^◌, ◌<◌, Bool, true, false, if◌then◌else◌, ◌==◌, nat_lt, ℤ, pos, unsigned_abs, List, [], ◌++◌, length, Option, Some, None, IfSome, unwrap_or, Result, Ok, Err, codes}
use Rattle.std.specs.Str.Parse.{AllDigits, digits_value}
use Rattle.number38.specs.Digits.{significant_digits}
use Rattle.number38.specs.Number.{signed, is_in_range}
use Rattle.number38.specs.declared.number.NumberFault.{NumberFault}
use Rattle.number38.specs.declared.number.NumberFault.TheVariants.{TooManyDigits, OutOfRange}

-- what stands before digits
pub data Sign : Type 0 where
  Unsigned : Sign
  Plus : Sign
  Minus : Sign

-- an exponent, behind `e` or `E`
pub record Exponent : Type 0 where
  pub capital : Bool
  pub sign : Sign
  pub digits : List ℕ

-- the parts of a numeral; there is no fraction without a point
pub record Numeral : Type 0 where
  pub sign : Sign
  pub whole : List ℕ
  pub fraction : Option (List ℕ)
  pub exponent : Option Exponent

abbrev pub sign_text : Sign → List ℕ
sign_text Unsigned = []
sign_text Plus = codes "+"
sign_text Minus = codes "-"

abbrev pub fraction_text : Option (List ℕ) → List ℕ
fraction_text None = []
fraction_text (Some digits) = codes "." ++ digits

abbrev pub mark_text : Bool → List ℕ
mark_text false = codes "e"
mark_text true = codes "E"

abbrev pub exponent_text : Option Exponent → List ℕ
exponent_text None = []
exponent_text (Some e) = mark_text e.capital ++ (sign_text e.sign ++ e.digits)

-- the text of a numeral
abbrev pub spelling : Numeral → List ℕ
spelling n = sign_text n.sign ++ (n.whole ++ (fraction_text n.fraction ++ exponent_text n.exponent))

-- the digits behind the point
abbrev pub decimals : Numeral → List ℕ
decimals n = unwrap_or n.fraction []

-- Digits stand where digits belong: at least one before or behind the point, and at least one in an exponent.
pub record IsNumeral (n : Numeral) : Type 0 where
  pub whole : AllDigits 10 n.whole
  pub fraction : AllDigits 10 (decimals n)
  pub some_digit : 0 < length n.whole + length (decimals n)
  pub exponent_digits : IfSome n.exponent (λ e. AllDigits 10 e.digits)
  pub some_exponent_digit : IfSome n.exponent (λ e. 0 < length e.digits)

-- the text is that of a numeral
abbrev pub IsTextOf : Numeral → List ℕ → Type 0
IsTextOf n text = IsNumeral n × (text ≡ spelling n)

abbrev pub is_minus : Sign → Bool
is_minus Unsigned = false
is_minus Plus = false
is_minus Minus = true

-- by how many places an exponent moves the point to the right, and to the left
abbrev pub raised_by : Sign → ℕ → ℕ
raised_by Unsigned k = k
raised_by Plus k = k
raised_by Minus k = 0

abbrev pub lowered_by : Sign → ℕ → ℕ
lowered_by Unsigned k = 0
lowered_by Plus k = 0
lowered_by Minus k = k

abbrev pub raised : Option Exponent → ℕ
raised None = 0
raised (Some e) = raised_by e.sign (digits_value 10 e.digits)

abbrev pub lowered : Option Exponent → ℕ
lowered None = 0
lowered (Some e) = lowered_by e.sign (digits_value 10 e.digits)

-- The answer for digits of the value m whose point moves right and left: the whole number that is 10^167 times the
-- value, or the first fault. Where the magnitude is in range and the digits are at most 38, the quotient is exact.
unfoldable pub valued : Bool → ℕ → ℕ → ℕ → Result ℤ NumberFault
valued negative m right left = let n = m * 10 ^ (167 + right) / 10 ^ left in
    if nat_lt 38 (significant_digits m) then Err TooManyDigits else (if m == 0 then Ok (pos 0) else (if is_in_range n then Ok (signed negative n) else Err OutOfRange))

-- the number that a numeral denotes, or the first fault
abbrev pub denoted : Numeral → Result ℤ NumberFault
denoted n = valued (is_minus n.sign) (digits_value 10 (n.whole ++ decimals n)) (raised n.exponent) (length (decimals n) + lowered n.exponent)

-- the number is 10^167 times the numeral's value, with nothing rounded: moved back by the places that the point moved to
-- the left, it is the digits moved by those to the right
abbrev pub IsExactly : Numeral → ℤ → Type 0
IsExactly n z =
    unsigned_abs z * 10 ^ (length (decimals n) + lowered n.exponent)
    ≡ digits_value 10 (n.whole ++ decimals n) * 10 ^ (167 + raised n.exponent)

-- the text denotes the number
pub record Denotes (text : List ℕ) (z : ℤ) : Type 0 where
  pub numeral : Numeral
  pub is_text : IsTextOf numeral text
  pub number : denoted numeral ≡ Ok z
