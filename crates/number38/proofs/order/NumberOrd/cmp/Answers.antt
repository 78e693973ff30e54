use Rattle.std.proofs.Common.{◌≡◌, ◌<◌, ℤ, Bool, true, false, sym, arith, ap, ◌∙◌}
use Rattle.std.specs.Ordering.{int_cmp}
use Rattle.number38.specs.Number.{signed}
use Rattle.number38.specs.Scaled.{magnitude}
use Rattle.number38.specs.DigitLaws.{mul_ten_pow_pos}
use Rattle.number38.proofs.OrderLaws.{int_cmp-across, int_cmp-across_back}
use Rattle.number38.proofs.order.NumberOrd.cmp.Goals as goal

pub returns-in-true-false : goal.returns-in-true-false
returns-in-true-false c =
    let a = c.scaled-a.result in
    let b = c.scaled-b.result in
    let some : 0 < magnitude a = omega (arith, mul_ten_pow_pos a.coefficient a.power (c.scaled-a.ensures.sign c.in-true-false.is-0)) in
    let y : c.args.self.now ≡ signed true (magnitude a) = sym c.scaled-a.ensures.whole ∙ ap (λ (s : Bool). signed s (magnitude a)) c.in-true-false.is-0 in
    let z : c.args.other.now ≡ signed false (magnitude b) = sym c.scaled-b.ensures.whole ∙ ap (λ (s : Bool). signed s (magnitude b)) c.in-true-false.is-1 in
    sym (ap (λ (x : ℤ). int_cmp x c.args.other.now) y ∙ ap (int_cmp (signed true (magnitude a))) z ∙ int_cmp-across (magnitude a) (magnitude b) some)

pub returns-in-false-true : goal.returns-in-false-true
returns-in-false-true c =
    let a = c.scaled-a.result in
    let b = c.scaled-b.result in
    let some : 0 < magnitude b = omega (arith, mul_ten_pow_pos b.coefficient b.power (c.scaled-b.ensures.sign c.in-false-true.is-1)) in
    let y : c.args.self.now ≡ signed false (magnitude a) = sym c.scaled-a.ensures.whole ∙ ap (λ (s : Bool). signed s (magnitude a)) c.in-false-true.is-0 in
    let z : c.args.other.now ≡ signed true (magnitude b) = sym c.scaled-b.ensures.whole ∙ ap (λ (s : Bool). signed s (magnitude b)) c.in-false-true.is-1 in
    sym (ap (λ (x : ℤ). int_cmp x c.args.other.now) y ∙ ap (int_cmp (signed false (magnitude a))) z ∙ int_cmp-across_back (magnitude a) (magnitude b) some)
