use Rattle.std.proofs.Common.{◌≡◌, ◌-◌, map}
use Rattle.std.specs.List.{range_with_len}
use Rattle.expr_words.specs.declared.tree.Operand.TheVariants.{Value}
use Rattle.legacy_params.proofs.leaf.choices.Given as goal

abbrev pub invariant-loop-place : goal.invariant-loop-place
invariant-loop-place l = l.choices ≡ map (λ place. Value place) (range_with_len l.first (l.place - l.first))
