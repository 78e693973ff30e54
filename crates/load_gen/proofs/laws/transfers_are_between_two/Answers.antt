use Rattle.std.proofs.Common.{arith}
use Rattle.load_gen.proofs.laws.transfers_are_between_two.Goals as goal

pub returns : goal.returns
returns c start j = record {
  from = omega arith;
  to = omega arith;
  apart = omega arith;
  least = omega arith;
  most = omega arith;
}
