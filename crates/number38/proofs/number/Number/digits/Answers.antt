use Rattle.std.proofs.Common.{◌≡◌, ◌*◌, ◌^◌, unsigned_abs, length, ℕ, ◌≤◌, subst, ap, sym, ◌∙◌, arith}
use Rattle.std.specs.Int.Digits.{digits_of}
use Rattle.number38.specs.Digits.{significant_digits}
use Rattle.number38.specs.DigitLaws.{significant_digits-zero, significant_digits-mul, length_digits_is}
use Rattle.number38.specs.Number.{power_of}
use Rattle.number38.specs.NumberLaws.{unsigned_abs-signed}
use Rattle.std.proofs.Math.Nat.{zero-mul, pow-suc}
use Rattle.number38.proofs.RangeLaws.{log_below}
use Rattle.number38.proofs.number.Number.digits.Goals as goal

pub returns-then-coefficient-eq0-clause-count : goal.returns-then-coefficient-eq0-clause-count
returns-then-coefficient-eq0-clause-count c =
    let a = c.self.inside in
    let n : unsigned_abs c.args.self.now ≡ a.coefficient * 10 ^ power_of a.exponent = ap unsigned_abs (sym c.self.view_is) ∙ unsigned_abs-signed a.negative _ in
    let z : a.coefficient * 10 ^ power_of a.exponent ≡ 0 = ap (λ x. x * 10 ^ power_of a.exponent) (sym c.word-coefficient.ensures ∙ c.if-coefficient-eq0.true) ∙ zero-mul (10 ^ power_of a.exponent) in
    let s : significant_digits (unsigned_abs c.args.self.now) ≡ 0 = ap significant_digits (n ∙ z) ∙ significant_digits-zero in
    omega arith

pub returns-clause-count : goal.returns-clause-count
returns-clause-count c =
    let a = c.self.inside in
    let n : unsigned_abs c.args.self.now ≡ a.coefficient * 10 ^ power_of a.exponent = ap unsigned_abs (sym c.self.view_is) ∙ unsigned_abs-signed a.negative _ in
    let s : significant_digits (unsigned_abs c.args.self.now) ≡ length (digits_of 10 a.coefficient) = ap significant_digits n ∙ significant_digits-mul a.coefficient (power_of a.exponent) (c.self.invariant.stripped (omega arith)) in
    omega (arith, length_digits_is c.ilog10.result a.coefficient (subst (λ (n : ℕ). 10 ^ c.ilog10.result ≤ n) c.word-coefficient.ensures c.ilog10.ensures.power_le) (omega (arith, pow-suc 10 c.ilog10.result)))

pub returns-clause-most : goal.returns-clause-most
returns-clause-most c = log_below c.self.inside.coefficient c.ilog10.result 38 (subst (λ (n : ℕ). 10 ^ c.ilog10.result ≤ n) c.word-coefficient.ensures c.ilog10.ensures.power_le) c.self.invariant.digits
