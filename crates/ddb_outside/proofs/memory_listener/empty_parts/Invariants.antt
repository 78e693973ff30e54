use Rattle.std.proofs.Common.{◌≡◌, map, length, []}
use Rattle.std.specs.List.{sum_by}
use Rattle.ddb_outside.specs.Dealt.{dealt}
use Rattle.ddb_outside.proofs.memory_listener.empty_parts.Given as goal

abbrev pub invariant-loop : goal.invariant-loop
invariant-loop l = record {
  dealt : map (λ part. part.items) l.parts.items ≡ dealt [] l.counter;
  none : sum_by (λ part. length part.items) l.parts.items ≡ 0;
}
