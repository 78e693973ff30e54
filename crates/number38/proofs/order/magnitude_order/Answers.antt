use Rattle.std.proofs.Common.{◌*◌, ◌^◌, ℕ, ◌-◌, ◌≤◌, sym, ap, ◌∙◌, arith}
use Rattle.std.specs.Ordering.{nat_cmp}
use Rattle.number38.proofs.OrderLaws.{nat_cmp-widen_left, nat_cmp-widen_right, nat_cmp-lt, nat_cmp-gt}
use Rattle.number38.proofs.order.magnitude_order.Goals as goal

pub returns-in-Some : goal.returns-in-Some
returns-in-Some c =
    let a = c.args.a in
    let b = c.args.b in
    c.cmp.ensures ∙ ap (nat_cmp a.coefficient) c.in-Some.ensures.1 ∙ sym (nat_cmp-widen_right a.coefficient b.coefficient a.power b.power (omega arith))

pub returns-in-None : goal.returns-in-None
returns-in-None c =
    let a = c.args.a in
    let b = c.args.b in
    let far : 2 * 10 ^ 38 ≤ b.coefficient * 10 ^ (b.power - a.power) = omega (arith, c.in-None.ensures) in
    sym (nat_cmp-widen_right a.coefficient b.coefficient a.power b.power (omega arith) ∙ nat_cmp-lt a.coefficient (b.coefficient * 10 ^ (b.power - a.power)) (omega arith))

pub returns-in-Some-widened : goal.returns-in-Some-widened
returns-in-Some-widened c =
    let a = c.args.a in
    let b = c.args.b in
    c.cmp-in-Some-widened.ensures ∙ ap (λ (x : ℕ). nat_cmp x b.coefficient) c.in-Some-widened.ensures.1 ∙ sym (nat_cmp-widen_left a.coefficient b.coefficient a.power b.power (omega arith))

pub returns-in-None-widened : goal.returns-in-None-widened
returns-in-None-widened c =
    let a = c.args.a in
    let b = c.args.b in
    let far : 2 * 10 ^ 38 ≤ a.coefficient * 10 ^ (a.power - b.power) = omega (arith, c.in-None-widened.ensures) in
    sym (nat_cmp-widen_left a.coefficient b.coefficient a.power b.power (omega arith) ∙ nat_cmp-gt (a.coefficient * 10 ^ (a.power - b.power)) b.coefficient (omega arith))
