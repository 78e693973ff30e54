use Rattle.std.proofs.Common.{◌≡◌}
use Rattle.partition.specs.Holders.{least_in, lesser}
use Rattle.partition.proofs.in_the_way.least_holder.Given as goal

abbrev pub invariant-loop-key : goal.invariant-loop-key
invariant-loop-key g l = lesser l.least (least_in l._key-iterator) ≡ least_in l.items.slots.entries
