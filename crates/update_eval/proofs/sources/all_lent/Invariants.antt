use Rattle.std.proofs.Common.{◌≡◌, map, take}
use Rattle.update_eval.proofs.sources.all_lent.Given as goal

abbrev pub invariant-loop-value : goal.invariant-loop-value
invariant-loop-value l = map (λ lent. lent.value.now) l.all ≡ take l.value-index l.value-items
