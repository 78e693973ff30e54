use Rattle.std.proofs.Common.{◌^◌, ◌≤◌, arith}
use Rattle.std.proofs.Math.Nat.{mul-le-mul_right}
use Rattle.number38.specs.DigitLaws.{ten_pow_le}
use Rattle.number38.proofs.scaled.widened.Goals as goal

pub returns-then-zeros-gt38 : goal.returns-then-zeros-gt38
returns-then-zeros-gt38 c =
    let some : 1 ≤ c.args.coefficient = omega arith in
    λ h. omega (arith, ten_pow_le 39 c.args.zeros (omega arith), mul-le-mul_right (10 ^ c.args.zeros) some)

pub pow-requires : goal.pow-requires
pow-requires c = omega (arith, ten_pow_le c.args.zeros 38 (omega arith))
