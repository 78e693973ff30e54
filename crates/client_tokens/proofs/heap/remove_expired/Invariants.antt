use Rattle.indexmap.specs.IndexMap.{index_map_len}
use Rattle.client_tokens.proofs.Loops.{Purges}
use Rattle.client_tokens.proofs.heap.remove_expired.Given as goal

abbrev pub invariant-loop-map : goal.invariant-loop-map
invariant-loop-map g l = Purges l.moment l.fn.map l.map

abbrev pub decreases-loop-map : goal.decreases-loop-map
decreases-loop-map g l = index_map_len l.map
