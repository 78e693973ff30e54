use Rattle.std.proofs.Common.{◌+◌, ◌*◌, ◌^◌, ◌<◌, ℕ, drop, get_or, sym, ap, ◌∙◌, subst, arith}
use Rattle.std.specs.Str.Parse.{digits_value_after}
use Rattle.std.specs.Char.{digit_value}
use Rattle.number38.specs.Digits.{significant_digits}
use Rattle.number38.proofs.MantissaLaws.{digit_at, digit_minus, value_step, significant_rest, if_none}
use Rattle.number38.proofs.mantissa.Mantissa.with_digits.Goals as goal

pub overflow_sub-digit : goal.overflow_sub-digit
overflow_sub-digit c =
    (digit_minus _ (digit_at c.args.digits.now c.loop-digit.digit-index c.requires.digits (omega arith))).0

pub with_digit-requires-clause-digit : goal.with_digit-requires-clause-digit
with_digit-requires-clause-digit c =
    let xs = c.args.digits.now in
    let i = c.loop-digit.digit-index in
    let digit : digit_value (get_or xs i 0) < 10 = digit_at xs i c.requires.digits (omega arith) in
    omega (arith, digit_minus (get_or xs i 0) digit)

pub returns-in_err-so_far-clause-none : goal.returns-in_err-so_far-clause-none
returns-in_err-so_far-clause-none c =
    let xs = c.args.digits.now in
    let i = c.loop-digit.digit-index in
    let n = c.loop-digit.so_far.coefficient * 10 ^ c.loop-digit.so_far.zeros in
    let total = sym (value_step xs i n c.requires.digits (omega arith)) ∙ c.loop-digit.invariant.value in
    if_none c.from_residual.result (subst (λ (x : ℕ). 38 < significant_digits x) total (significant_rest xs (i + 1) _ c.requires.digits c.in_err-so_far.ensures.none))

pub loop-digit-preserved : goal.loop-digit-preserved
loop-digit-preserved c =
    let xs = c.args.digits.now in
    let i = c.loop-digit.digit-index in
    let n = c.loop-digit.so_far.coefficient * 10 ^ c.loop-digit.so_far.zeros in
    record {
      value = ap (λ (x : ℕ). digits_value_after 10 x (drop (i + 1) xs)) c.in_ok-so_far.ensures.some ∙ sym (value_step xs i n c.requires.digits (omega arith)) ∙ c.loop-digit.invariant.value;
      zeros = omega (arith, c.in_ok-so_far.ensures.zeros);
    }
