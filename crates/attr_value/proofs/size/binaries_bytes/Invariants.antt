use Rattle.std.proofs.Common.{◌≡◌, ◌-◌, ◌^◌, length, min, sum_by, take}
use Rattle.attr_value.proofs.size.binaries_bytes.Given as goal

abbrev pub invariant-loop-bytes : goal.invariant-loop-bytes
invariant-loop-bytes l = l.total ≡ min (sum_by length (take l.bytes-index l.binaries)) (2 ^ 64 - 1)
