use Rattle.std.proofs.Common.{◌≡◌, ◌+◌, ◌-◌, ◌*◌, ◌^◌, ℕ, drop, get_or, min, sym, ap, ◌∙◌, arith}
use Rattle.std.specs.Str.Parse.{digits_value_after}
use Rattle.number38.proofs.MantissaLaws.{digit_at, digit_minus, value_step, bounded_after, drop_whole}
use Rattle.number38.proofs.mantissa.bounded_value.Goals as goal

pub overflow_sub-digit : goal.overflow_sub-digit
overflow_sub-digit c =
    (digit_minus _ (digit_at c.args.digits.now c.loop-digit.digit-index c.requires (omega arith))).0

pub loop-digit-preserved : goal.loop-digit-preserved
loop-digit-preserved c = record {
  value =
      let xs = c.args.digits.now in
      let i = c.loop-digit.digit-index in
      let n = c.loop-digit.value in
      let d : ℕ = get_or xs i 0 - 48 in
      bounded_after (2 ^ 64 - 1) c.saturating_add-value.result (n * 10 + d) (drop (i + 1) xs) (omega arith)
      ∙ ap (λ (x : ℕ). min x (2 ^ 64 - 1)) (sym (value_step xs i n c.requires (omega arith))) ∙ c.loop-digit.invariant.value;
  small = omega arith;
}

pub returns : goal.returns
returns c =
    let xs = c.args.digits.now in
    let i = c.loop-digit.digit-index in
    let n = c.loop-digit.value in
    let rest : digits_value_after 10 n (drop i xs) ≡ n = ap (digits_value_after 10 n) (drop_whole xs i c.loop-digit-test.false) in
    let all = c.loop-digit.invariant.value in
    let small = c.loop-digit.invariant.small in
    omega arith
