use Rattle.std.proofs.Common.{arith}
use Rattle.std.proofs.lemmas.List.Sums.{sum_by_push}
use Rattle.ddb_outside.proofs.Dealing.{parts_push}
use Rattle.ddb_outside.proofs.memory_listener.empty_parts.Goals as goal

pub loop-preserved : goal.loop-preserved
loop-preserved c = record {
  dealt = parts_push (λ part. part.items) c.loop.parts.items _ c.new.result c.loop.counter c.in_ok-push.ensures.items c.new.ensures.items c.loop.invariant.dealt;
  none = grind (arith, sum_by_push, c.in_ok-push.ensures.items, c.new.ensures.items, c.loop.invariant.none);
}
