use Rattle.std.proofs.Common.{◌≡◌, ◌+◌, ◌*◌, ◌^◌, ◌<◌, ◌/◌, ℕ, sym, ap, ◌∙◌, arith, add_comm}
use Rattle.number38.specs.DigitLaws.{ten_pow_join, ten_pow_few, strip_step}
use Rattle.number38.proofs.scaled.Scaled.stripped.Goals as goal

pub loop-coefficient-preserved : goal.loop-coefficient-preserved
loop-coefficient-preserved c =
    let n = c.loop-coefficient.coefficient in
    let k = c.loop-coefficient.zeros in
    let same : n / 10 * 10 ^ (k + 1) ≡ c.args.self.coefficient = strip_step n k c.loop-coefficient-test.true ∙ c.loop-coefficient.invariant.same in
    let some : 0 < n / 10 = omega arith in
    record {
      some = some;
      same = same;
      shorter = omega arith;
      few = ten_pow_few (n / 10) (k + 1) some (omega arith);
    }

pub returns-clause-same : goal.returns-clause-same
returns-clause-same c =
    let n = c.loop-coefficient.coefficient in
    let k = c.loop-coefficient.zeros in
    let p = c.args.self.power in
    ap (λ (x : ℕ). n * 10 ^ x) (add_comm p k) ∙ sym (ten_pow_join n k p) ∙ ap (λ (x : ℕ). x * 10 ^ p) c.loop-coefficient.invariant.same
