use Rattle.std.proofs.Common.{◌≡◌, suc, Bool, true, false, ◌&&◌, List, [], ◌∷◌, length, refl, ap, ◌∙◌}
use Rattle.attr_value.specs.Equality.{same, same_elements}
use Rattle.attr_value.specs.View.{tree_of, trees_of}
use Rattle.attr_value.specs.declared.value.Value.{Value}
use Rattle.attr_value.proofs.equal.+equal.Goals as goal

and_false : (a b : Bool) → false ≡ b → false ≡ (a && b)
and_false true b e = e
and_false false b e = refl

other_lengths : (vs us : List Value) → (length vs ≡ length us → ⊥) → false ≡ same_elements (trees_of vs) (trees_of us)
other_lengths [] [] other = absurd (other refl)
other_lengths [] (u ∷ us) other = refl
other_lengths (v ∷ vs) [] other = refl
other_lengths (v ∷ vs) (u ∷ us) other = and_false (same (tree_of v) (tree_of u)) (same_elements (trees_of vs) (trees_of us)) (other_lengths vs us (λ e. other (ap suc e)))

pub are_equal_lists-returns-then-values-others : goal.are_equal_lists-returns-then-values-others
are_equal_lists-returns-then-values-others t c =
    other_lengths c.as_slice-values.result.now c.as_slice-others.result.now c.if-values-others.true
    ∙ ap (λ a. same_elements a (trees_of c.as_slice-others.result.now)) (ap trees_of c.as_slice-values.ensures ∙ c.list.view_is)
    ∙ ap (same_elements c.args.list.now) (ap trees_of c.as_slice-others.ensures ∙ c.other.view_is)
