use Rattle.std.proofs.Common.{◌∙◌, ap, subst, sym, arith}
use Rattle.client_tokens.specs.Heap.{dues, IsHeapBut, IsNotBeforeParent}
use Rattle.client_tokens.proofs.Dues.{dues-swap, length-dues}
use Rattle.client_tokens.proofs.HeapSteps.{sinks, sinks_above, in_place}
use Rattle.client_tokens.proofs.TokenMaps.{reordered}
use Rattle.client_tokens.proofs.heap.sink.Goals as goal

pub loop-at-preserved : goal.loop-at-preserved
loop-at-preserved g c =
    let child = c.earliest_child-child.result in
    let e = c.earliest_child-child.ensures in
    let was = c.loop-at.map.entries in
    let h = c.loop-at.invariant.moves in
    let is = ap dues c.swap_indices.ensures.entries ∙ dues-swap was c.loop-at.at child in
    let len = length-dues was in
    record {
      moves = record {
        within = omega (arith, c.swap_indices.ensures.reordered.1);
        others = subst (λ ns. IsHeapBut ns child) (sym is) (sinks (dues was) c.loop-at.at child e.from e.to (omega arith) h.others e.earliest);
        same = reordered c.loop-at.map c.swap_indices.new.self c.swap_indices.ensures.reordered ∙ h.same;
        len = c.swap_indices.ensures.reordered.1 ∙ h.len;
      };
      above = subst (λ ns. IsNotBeforeParent ns child) (sym is) (sinks_above (dues was) c.loop-at.at child e.from e.to (omega arith) (c.is_earlier.ensures.0 c.if-not-is_earlier.false));
    }

pub returns-clause-ordered : goal.returns-clause-ordered
returns-clause-ordered g c =
    let h = c.loop-at.invariant in
    let len = length-dues c.loop-at.map.entries in
    in_place (dues c.loop-at.map.entries) c.loop-at.at h.moves.others h.above (λ k a b f. absurd (omega (arith, h.moves.len)))
