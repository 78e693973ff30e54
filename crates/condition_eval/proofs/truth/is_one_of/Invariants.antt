use Rattle.std.proofs.Common.{◌≡◌, drop}
use Rattle.std.specs.List.{list_any}
use Rattle.attr_value.specs.View.{lent_tree}
use Rattle.condition_eval.specs.Truth.{is_equal, seen}
use Rattle.condition_eval.proofs.truth.is_one_of.Given as goal

abbrev pub invariant-loop-choice : goal.invariant-loop-choice
invariant-loop-choice l =
    list_any (λ choice. is_equal (lent_tree l.value) (seen l.values l.item choice)) (drop l.choice-index l.choices)
    ≡ list_any (λ choice. is_equal (lent_tree l.value) (seen l.values l.item choice)) l.choices
