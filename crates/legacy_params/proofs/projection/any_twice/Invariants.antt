use Rattle.std.proofs.Common.{◌≡◌, ◌||◌, drop}
use Rattle.std.specs.List.{list_any}
use Rattle.legacy_params.proofs.Twice.{holds, repeats}
use Rattle.legacy_params.proofs.projection.any_twice.Given as goal

abbrev pub invariant-loop-name : goal.invariant-loop-name
invariant-loop-name l = (list_any (holds l.seen.keys) (drop l.name-index l.names) || repeats (drop l.name-index l.names)) ≡ repeats l.names
