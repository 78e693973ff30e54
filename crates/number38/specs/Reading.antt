-- How the code takes a text apart: from the front, with no look back.
use Rattle.std.specs.Prelude.{ℕ, ◌+◌, Bool, true, false, ◌||◌, not, if◌then◌else◌, ◌==◌, List, [], ◌∷◌, ◌++◌, length, Option, Some, None, option_and_then, ℤ, Result}
use Rattle.std.specs.Str.Parse.{AllDigits, digits_value}
use Rattle.std.specs.Char.{is_ascii_digit}
use Rattle.number38.specs.Text.{valued}
use Rattle.number38.specs.declared.number.NumberFault.{NumberFault}
use Rattle.number38.specs.declared.numeral.Parts.{Parts}

-- the digits at the front, and what follows them
abbrev pub digits_at : List ℕ → List ℕ
digits_at [] = []
digits_at (c ∷ cs) = if is_ascii_digit c then c ∷ digits_at cs else []

abbrev pub after_digits : List ℕ → List ℕ
after_digits [] = []
after_digits (c ∷ cs) = if is_ascii_digit c then after_digits cs else c ∷ cs

-- whether a minus stands at the front, and what follows the sign
abbrev pub sign_at : List ℕ → Bool × List ℕ
sign_at [] = (false, [])
sign_at (c ∷ cs) = if c == 45 then (true, cs) else (if c == 43 then (false, cs) else (false, c ∷ cs))

-- the digits behind a point at the front, and what follows them
abbrev pub fraction_at : List ℕ → List ℕ × List ℕ
fraction_at [] = ([], [])
fraction_at (c ∷ cs) = if c == 46 then (digits_at cs, after_digits cs) else ([], c ∷ cs)

-- one digit or more, to the end
abbrev pub only_digits : Bool × List ℕ → Option (Bool × List ℕ)
only_digits s = if (length (digits_at s.1) == 0) || not (length (after_digits s.1) == 0) then None else Some s

-- the exponent that is all of the text, if it is one: whether it is negative, and its digits
abbrev pub exponent_at : List ℕ → Option (Bool × List ℕ)
exponent_at [] = Some (false, [])
exponent_at (c ∷ cs) = if (c == 101) || (c == 69) then only_digits (sign_at cs) else None

-- what the code knows of a numeral
pub record Pieces : Type 0 where
  pub negative : Bool
  pub whole : List ℕ
  pub decimals : List ℕ
  pub lowers : Bool
  pub exponent : List ℕ

abbrev pub pieces : Parts → Pieces
pieces p = record { negative = p.negative; whole = p.whole.now; decimals = p.decimals.now; lowers = p.lowers; exponent = p.exponent.now }

-- the pieces, where there is a digit before or behind the point, and nothing but an exponent follows
abbrev pub assembled : Bool → List ℕ → List ℕ → Option (Bool × List ℕ) → Option Pieces
assembled negative whole decimals exponent =
    if length whole + length decimals == 0 then None
    else option_and_then (λ e. Some (record { negative = negative; whole = whole; decimals = decimals; lowers = e.0; exponent = e.1 })) exponent

unfoldable pub pieces_at : List ℕ → Option Pieces
pieces_at text =
    let s = sign_at text in
    let f = fraction_at (after_digits s.1) in
    assembled s.0 (digits_at s.1) f.0 (exponent_at f.1)

-- digits stand where digits belong
pub record HasDigits (p : Pieces) : Type 0 where
  pub whole : AllDigits 10 p.whole
  pub decimals : AllDigits 10 p.decimals
  pub exponent : AllDigits 10 p.exponent

-- the answer for these pieces
abbrev pub answer_to : Pieces → Result ℤ NumberFault
answer_to p =
    let k = digits_value 10 p.exponent in
    valued p.negative (digits_value 10 (p.whole ++ p.decimals)) (if p.lowers then 0 else k) (length p.decimals + (if p.lowers then k else 0))
