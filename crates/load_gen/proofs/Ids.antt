-- The text of an account's number.
use Rattle.std.proofs.Common.{◌≡◌, ℕ, ◌-◌, ◌/◌, ◌%◌, ◌<◌, ◌≤◌, ◌^◌, [], ◌++◌, false, refl, arith, ⊎_elim}
use Rattle.std.proofs.lemmas.Bool.{cases_lt}
use Rattle.std.specs.Prelude.{decimal}
use Rattle.std.specs.Fmt.{padded_integral, char_count, format_spec}
use Rattle.std.proofs.lemmas.Fmt.{decimal_digit, decimal_step}

-- two digits, the first of which is 0 where the number has one
pub in_two_digits : (n : ℕ) → n < 100
    → padded_integral (format_spec 32 0 4 2 (2 ^ 64 - 1)) false [] (decimal n) ≡ decimal (n / 10) ++ decimal (n % 10)
unfolding padded_integral char_count
in_two_digits n small = ⊎_elim
    (λ (one : n < 10).
    let whole : n / 10 ≡ 0 = omega arith in
    let last : n % 10 ≡ n = omega arith in
    rw (whole, last, decimal_digit 0 (omega arith), decimal_digit n one) refl)
    (λ (more : 10 ≤ n).
    let tens : n / 10 < 10 = omega arith in
    rw (decimal_step n more (omega arith), decimal_digit (n / 10) tens, decimal_digit (n % 10) (omega arith)) refl)
    (cases_lt n 10)
