use Rattle.std.proofs.Common.{◌^◌, ◌<◌, sym, arith}
use Rattle.std.proofs.Math.Nat.{div-eq_of_lt, mod-eq_of_lt}
use Rattle.number38.specs.DigitLaws.{ten_pow_le, ten_pow_pos}
use Rattle.number38.proofs.printed.split.Goals as goal

pub returns-then-places-gt38-clause-whole : goal.returns-then-places-gt38-clause-whole
returns-then-places-gt38-clause-whole c =
    let small : c.args.coefficient < 10 ^ c.args.places = omega (arith, ten_pow_le 39 c.args.places (omega arith)) in
    sym (div-eq_of_lt small)

pub returns-then-places-gt38-clause-fraction : goal.returns-then-places-gt38-clause-fraction
returns-then-places-gt38-clause-fraction c =
    let small : c.args.coefficient < 10 ^ c.args.places = omega (arith, ten_pow_le 39 c.args.places (omega arith)) in
    sym (mod-eq_of_lt small)

pub pow-one-requires : goal.pow-one-requires
pow-one-requires c = omega (arith, ten_pow_le c.args.places 38 (omega arith))

pub nonzero_div-result : goal.nonzero_div-result
nonzero_div-result c = omega (arith, c.pow-one.ensures, ten_pow_pos c.args.places)

pub nonzero_rem-result : goal.nonzero_rem-result
nonzero_rem-result c = omega (arith, c.pow-one.ensures, ten_pow_pos c.args.places)
