use Rattle.std.proofs.Common.{◌≡◌, ◌++◌}
use Rattle.std.specs.List.{flat_map}
use Rattle.std.specs.Vec.Iter.{into_iter_items}
use Rattle.batch_calls.proofs.get.all_places.Given as goal

abbrev pub invariant-loop-mine : goal.invariant-loop-mine
invariant-loop-mine l = l.all ++ flat_map (λ mine. mine) (into_iter_items l.mine-iterator) ≡ flat_map (λ mine. mine) l.fn.places
