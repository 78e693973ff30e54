use Rattle.std.proofs.Common.{◌≡◌, map, length, ◌%◌, ◌<◌}
use Rattle.std.specs.List.{sum_by}
use Rattle.ddb_outside.specs.Dealt.{dealt}
use Rattle.ddb_outside.proofs.memory_listener.deal.Given as goal

abbrev pub invariant-loop-content : goal.invariant-loop-content
invariant-loop-content l = record {
  share : l.share ≡ length l.yielded % l.shares-2;
  below : l.share < l.shares-2;
  dealt : map (λ part. part.items) l.parts.items ≡ dealt l.yielded l.shares-2;
  all : sum_by (λ part. length part.items) l.parts.items ≡ length l.yielded;
}
