use Rattle.std.proofs.Common.{◌≡◌, map}
use Rattle.item_calls.specs.Places.{item_at}
use Rattle.batch_calls.proofs.find.places_in.Given as goal

abbrev pub invariant-loop-row : goal.invariant-loop-row
invariant-loop-row l = l.places.items ≡ map (item_at l.number) l.yielded
