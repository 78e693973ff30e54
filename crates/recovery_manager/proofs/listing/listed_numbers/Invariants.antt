use Rattle.std.proofs.Common.{◌≡◌, take}
use Rattle.recovery_manager.specs.Lists.{numbers_in}
use Rattle.recovery_manager.proofs.listing.listed_numbers.Given as goal

abbrev pub invariant-loop-item : goal.invariant-loop-item
invariant-loop-item g l = l.numbers.items ≡ numbers_in l.fn.unfinished (take l.item-index l.items)
