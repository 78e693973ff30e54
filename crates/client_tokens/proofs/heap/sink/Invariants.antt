use Rattle.std.proofs.Common.{◌-◌}
use Rattle.indexmap.specs.IndexMap.{index_map_len}
use Rattle.client_tokens.proofs.Loops.{MovesDown}
use Rattle.client_tokens.proofs.heap.sink.Given as goal

abbrev pub invariant-loop-at : goal.invariant-loop-at
invariant-loop-at g l = MovesDown l.fn.map l.map l.at

abbrev pub decreases-loop-at : goal.decreases-loop-at
decreases-loop-at g l = index_map_len l.fn.map - l.at
