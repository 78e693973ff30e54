use Rattle.std.proofs.Common.{◌≡◌, ◌+◌, ◌*◌, ◌^◌, ◌≤◌, drop}
use Rattle.std.specs.Str.Parse.{digits_value_after}
use Rattle.number38.proofs.mantissa.Mantissa.with_digits.Given as goal

abbrev pub invariant-loop-digit : goal.invariant-loop-digit
invariant-loop-digit l = record {
  value : digits_value_after 10 (l.so_far.coefficient * 10 ^ l.so_far.zeros) (drop l.digit-index l.digits) ≡ digits_value_after 10 (l.fn.self.coefficient * 10 ^ l.fn.self.zeros) l.digits;
  zeros : l.so_far.zeros ≤ l.fn.self.zeros + l.digit-index;
}
