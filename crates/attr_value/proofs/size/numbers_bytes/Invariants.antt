use Rattle.std.proofs.Common.{◌≡◌, ◌-◌, ◌^◌, min, sum_by, take}
use Rattle.attr_value.specs.Sizes.{number_size}
use Rattle.attr_value.proofs.size.numbers_bytes.Given as goal

abbrev pub invariant-loop-number : goal.invariant-loop-number
invariant-loop-number l = l.total ≡ min (sum_by number_size (take l.number-index l.numbers)) (2 ^ 64 - 1)
