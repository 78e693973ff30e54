use Rattle.std.proofs.Common.{◌≡◌, drop, map}
use Rattle.std.specs.List.{list_any}
use Rattle.update_eval.specs.Places.{begins_with}
use Rattle.update_eval.proofs.path.pairs_begin.Given as goal

abbrev pub invariant-loop-pair : goal.invariant-loop-pair
invariant-loop-pair l = list_any (begins_with l.name) (map (λ x. x.path) (drop l.pair-index l.pairs)) ≡ list_any (begins_with l.name) (map (λ x. x.path) l.pairs)
