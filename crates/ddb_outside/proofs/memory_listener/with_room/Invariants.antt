use Rattle.std.proofs.Common.{◌≡◌, map, length}
use Rattle.std.specs.List.{sum_by}
use Rattle.ddb_outside.proofs.memory_listener.with_room.Given as goal

abbrev pub invariant-loop-coming : goal.invariant-loop-coming
invariant-loop-coming l = record {
  parts : map (λ part. part.coming.items) l.parts.items ≡ map (λ part. part.items) l.yielded;
  all : sum_by (λ part. length part.coming.items) l.parts.items ≡ sum_by (λ part. length part.items) l.yielded;
}
