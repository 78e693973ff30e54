use Rattle.std.proofs.Common.{◌∙◌, ◌-◌, ◌/◌, ap, subst, sym, arith}
use Rattle.client_tokens.specs.Heap.{dues, IsHeapBut}
use Rattle.client_tokens.proofs.Dues.{dues-swap, length-dues}
use Rattle.client_tokens.proofs.HeapSteps.{rises}
use Rattle.client_tokens.proofs.TokenMaps.{reordered}
use Rattle.client_tokens.proofs.heap.rise.Goals as goal

pub loop-at-preserved : goal.loop-at-preserved
loop-at-preserved g c =
    let up = (c.loop-at.at - 1) / 2 in
    let was = c.loop-at.map.entries in
    let h = c.loop-at.invariant in
    let is = ap dues c.swap_indices.ensures.entries ∙ dues-swap was up c.loop-at.at in
    let len = length-dues was in
    record {
      within = omega (arith, c.swap_indices.ensures.reordered.1);
      others = subst (λ ns. IsHeapBut ns up) (sym is) (rises (dues was) up c.loop-at.at (omega arith) (omega arith) (omega arith) h.others);
      same = reordered c.loop-at.map c.swap_indices.new.self c.swap_indices.ensures.reordered ∙ h.same;
      len = c.swap_indices.ensures.reordered.1 ∙ h.len;
    }
