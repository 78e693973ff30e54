use Rattle.std.proofs.Common.{◌≡◌, ◌+◌, ◌*◌, ◌^◌, ◌≤◌, arith}
use Rattle.number38.specs.DigitLaws.{ten_pow-more, many_here}
use Rattle.number38.proofs.MantissaLaws.{if_none}
use Rattle.number38.proofs.mantissa.Mantissa.with_digit.Goals as goal

pub returns-then-digit-eq0-clause-some : goal.returns-then-digit-eq0-clause-some
returns-then-digit-eq0-clause-some c = omega (arith, ten_pow-more c.args.self.coefficient c.args.self.zeros)

pub returns-in_err-coefficient-clause-none : goal.returns-in_err-coefficient-clause-none
returns-in_err-coefficient-clause-none c =
    let s = c.args.self in
    let wide : s.coefficient * 10 ^ (s.zeros + 1) ≡ s.coefficient * 10 ^ s.zeros * 10 = ten_pow-more s.coefficient s.zeros in
    let far : 2 * 10 ^ 38 ≤ s.coefficient * 10 ^ (s.zeros + 1) = omega (arith, c.in_err-coefficient.ensures) in
    if_none c.from_residual.result (many_here (s.coefficient * 10 ^ s.zeros * 10 + c.args.digit) (omega arith) (omega arith))

pub returns-then-coefficient-ge-COEFFICIENT_LIMIT-clause-none : goal.returns-then-coefficient-ge-COEFFICIENT_LIMIT-clause-none
returns-then-coefficient-ge-COEFFICIENT_LIMIT-clause-none c =
    let s = c.args.self in
    let wide : s.coefficient * 10 ^ (s.zeros + 1) ≡ s.coefficient * 10 ^ s.zeros * 10 = ten_pow-more s.coefficient s.zeros in
    let is : c.in_ok-coefficient.field-0 ≡ s.coefficient * 10 ^ (s.zeros + 1) = c.in_ok-coefficient.ensures.1 in
    many_here (s.coefficient * 10 ^ s.zeros * 10 + c.args.digit) (omega arith) (omega arith)

pub invariant_of-result-2 : goal.invariant_of-result-2
invariant_of-result-2 c =
    let s = c.args.self in
    let wide : s.coefficient * 10 ^ (s.zeros + 1) ≡ s.coefficient * 10 ^ s.zeros * 10 = ten_pow-more s.coefficient s.zeros in
    let is : c.in_ok-coefficient.field-0 ≡ s.coefficient * 10 ^ (s.zeros + 1) = c.in_ok-coefficient.ensures.1 in
    record { digits = omega arith; stripped = λ _. omega arith }

pub returns-clause-some : goal.returns-clause-some
returns-clause-some c =
    let s = c.args.self in
    let wide : s.coefficient * 10 ^ (s.zeros + 1) ≡ s.coefficient * 10 ^ s.zeros * 10 = ten_pow-more s.coefficient s.zeros in
    let is : c.in_ok-coefficient.field-0 ≡ s.coefficient * 10 ^ (s.zeros + 1) = c.in_ok-coefficient.ensures.1 in
    omega arith
