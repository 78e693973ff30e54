use Rattle.std.proofs.Common.{◌≡◌, ◌*◌, ◌^◌, ◌≤◌, ◌%◌, ◌-◌, ◌+ℤ◌, ℕ, sym, ap, ◌∙◌, arith}
use Rattle.number38.specs.Number.{fitted, signed}
use Rattle.number38.specs.Scaled.{whole}
use Rattle.number38.proofs.RangeLaws.{fitted-coefficient_many}
use Rattle.number38.proofs.SumLaws.{signed-add_mul, FarSum, far_sum, widened_far, aligned}
use Rattle.number38.proofs.sum.aligned_sum.Goals as goal

pub returns-in-None : goal.returns-in-None
returns-in-None c =
    let high = c.args.high in
    let low = c.args.low in
    let wide : ℕ = high.coefficient * 10 ^ (high.power - low.power) in
    let far : 2 * 10 ^ 38 ≤ wide = omega (arith, c.in-None.ensures) in
    let last : wide % 10 ≡ 0 = widened_far high.coefficient (high.power - low.power) c.requires.high_digits far in
    let sum : FarSum (signed high.negative wide +ℤ signed low.negative low.coefficient) =
    far_sum high.negative low.negative wide low.coefficient last (c.requires.low_stripped (omega arith)) c.requires.low_digits far in
    let whole_sum : whole high +ℤ whole low ≡ signed sum.negative (sum.coefficient * 10 ^ low.power) =
    aligned high.negative low.negative high.coefficient low.coefficient low.power high.power c.requires.order
    ∙ sym (signed-add_mul high.negative low.negative sum.negative wide low.coefficient sum.coefficient (10 ^ low.power) sum.is) in
    sym (ap fitted whole_sum ∙ fitted-coefficient_many sum.negative sum.coefficient low.power sum.stripped sum.large)

pub returns-in-Some : goal.returns-in-Some
returns-in-Some c =
    let high = c.args.high in
    let low = c.args.low in
    let wide : ℕ = high.coefficient * 10 ^ (high.power - low.power) in
    let r = c.signed_sum-negative.result in
    let is : signed r.0 r.1 ≡ signed high.negative wide +ℤ signed low.negative low.coefficient =
    c.signed_sum-negative.ensures ∙ ap (λ (x : ℕ). signed high.negative x +ℤ signed low.negative low.coefficient) c.in-Some.ensures.1 in
    c.fit-in-Some.ensures
    ∙ ap fitted (signed-add_mul high.negative low.negative r.0 wide low.coefficient r.1 (10 ^ low.power) is
    ∙ sym (aligned high.negative low.negative high.coefficient low.coefficient low.power high.power c.requires.order))
