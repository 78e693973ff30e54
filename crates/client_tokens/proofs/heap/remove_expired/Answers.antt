use Rattle.std.proofs.Common.{ap, ◌∙◌}
use Rattle.client_tokens.specs.Heap.{token_at}
use Rattle.client_tokens.specs.TokenMap.{token_map, purged}
use Rattle.client_tokens.proofs.Purges.{purged-remove}
use Rattle.client_tokens.proofs.heap.remove_expired.Goals as goal

pub loop-map-preserved : goal.loop-map-preserved
loop-map-preserved g c =
    let was = c.loop-map.map.entries in
    record {
      ordered = c.remove_at.ensures.ordered;
      same =
          ap (λ tokens. purged tokens c.args.moment) c.remove_at.ensures.removed
          ∙ purged-remove (token_map was) c.args.moment (token_at was 0) c.loop-map-test.ensures.first
          ∙ c.loop-map.invariant.same;
    }
