-- Units are a number of JSON.
use Rattle.std.proofs.Common.{◌≡◌, ℕ, zero, suc, ◌+◌, ◌/◌, ◌%◌, ◌^◌, ◌<◌, ◌≤◌, ◌==◌, Bool, true, false, cond, if◌then◌else◌, List, [], ◌∷◌, ◌++◌, length, get_or, drop, Some, option_and_then, codes, decimal, refl, ap, ◌∙◌, arith}
use Rattle.std.proofs.lemmas.Bool.{ne_eqb, le-leb, and_from}
use Rattle.std.proofs.lemmas.List.{drop_at}
use Rattle.std.proofs.lemmas.Fmt.{decimal_is_IsNumeral, decimal_digit, first_decimal}
use Rattle.std.proofs.lemmas.Str.Parse.{digit_at}
use Rattle.std.specs.List.{prefix_len}
use Rattle.std.specs.Char.{is_ascii_digit}
use Rattle.json.specs.Print.{IsNumber}
use Rattle.json.specs.Word.{head, after_digits, after_whole, after_fraction, after_exponent, after_number}
use Rattle.capacity.specs.Units.{units}

abbrev AreDigits : List ℕ → Type 0
AreDigits ds = (i : ℕ) → i < length ds → (48 ≤ get_or ds i 0) × (get_or ds i 0 ≤ 57)

-- a point stands behind the digits
digits_end : (ds t : List ℕ) → AreDigits ds → prefix_len is_ascii_digit (ds ++ 46 ∷ t) ≡ length ds
digits_end [] t h = refl
digits_end (d ∷ ds) t h =
    let first = h 0 (omega arith) in
    let rest = digits_end ds t (λ i l. h (suc i) (omega arith)) in
    ap (λ b. cond b (1 + prefix_len is_ascii_digit (ds ++ 46 ∷ t)) 0) (and_from _ _ (le-leb 48 d first.0) (le-leb d 57 first.1)) ∙ omega arith

-- what is left behind the whole part
abbrev Leaves : List ℕ → List ℕ → Type 0
Leaves ds t = (after_whole (ds ++ 46 ∷ t) ≡ Some (46 ∷ t)) × ((head (ds ++ 46 ∷ t) == 45) ≡ false)

no_zero : (ds t : List ℕ) → 48 < get_or ds 0 0 → prefix_len is_ascii_digit (ds ++ 46 ∷ t) ≡ length ds → Leaves ds t
no_zero [] t first all = absurd (omega arith)
no_zero (d ∷ ds) t first all = (
  rw (ne_eqb d 48 (λ e. omega arith), all, ne_eqb (suc (length ds)) 0 (λ e. omega arith)) (ap Some (drop_at (d ∷ ds) (46 ∷ t) _ refl)),
  ne_eqb d 45 (λ e. omega arith),
)

whole_part : (n : ℕ) (t : List ℕ) → n < 2 ^ 64 → Leaves (decimal n) t
whole_part zero t h =
    let e = decimal_digit 0 (omega arith) in
    (ap (λ ds. after_whole (ds ++ 46 ∷ t)) e, ap (λ ds. head (ds ++ 46 ∷ t) == 45) e)
whole_part (suc n) t h =
    let ds = decimal (suc n) in
    no_zero ds t (first_decimal (suc n) (omega arith) h) (digits_end ds t (λ i l. digit_at ds i (decimal_is_IsNumeral (suc n) h).0.1 l))

one_place : (n : ℕ) (t : List ℕ) → n < 2 ^ 64 → after_digits t ≡ Some [] → IsNumber (decimal n ++ 46 ∷ t)
unfolding after_number
one_place n t h last =
    let s = decimal n ++ 46 ∷ t in
    let w = whole_part n t h in
    ap (λ b. option_and_then after_exponent (option_and_then after_fraction (after_whole (cond b (drop 1 s) s)))) w.1
    ∙ ap (λ o. option_and_then after_exponent (option_and_then after_fraction o)) w.0
    ∙ ap (option_and_then after_exponent) last

either : (b : Bool) (n : ℕ) → n < 2 ^ 64 → IsNumber (decimal n ++ (if b then codes ".0" else codes ".5"))
either true n h = one_place n (codes "0") h refl
either false n h = one_place n (codes "5") h refl

pub units_are_number : (halves : ℕ) → halves < 2 ^ 64 → IsNumber (units halves)
units_are_number halves h = either (halves % 2 == 0) (halves / 2) (omega arith)
