-- What each action writes, with each value computed on the old item, or its fault.
use Rattle.std.specs.Prelude.{List, [], ◌∷◌, ◌++◌, if◌then◌else◌, Option, Some, None, is_some, Ok, Err}
use Rattle.base_types.specs.declared.path.DocPath.{DocPath}
use Rattle.base_types.specs.declared.path.Step.{Step}
use Rattle.attr_value.specs.Tree.{Tree, Attributes}
use Rattle.attr_value.specs.Paths.{found}
use Rattle.attr_value.specs.declared.value.Value.{Value}
use Rattle.expr_words.specs.Trees.{SetTree}
use Rattle.expr_words.specs.declared.tree.PathValue.{PathValue}
use Rattle.item_writes.specs.NewTree.{Written}
use Rattle.update_eval.specs.Answers.{Answer, after}
use Rattle.update_eval.specs.Terms.{given, there}
use Rattle.update_eval.specs.Sums.{sum_of}
use Rattle.update_eval.specs.Changes.{add_of, less_of}
use Rattle.update_eval.specs.Places.{has_place}
use Rattle.update_eval.specs.declared.fault.EvalFault.TheVariants.{BadPath}

-- a write of the value there, where the path has a place for it
abbrev pub placed_at : List Step → Attributes → Tree → Answer (List Written)
placed_at steps old value = if has_place steps old then Ok ((steps, Some value) ∷ []) else Err BadPath

-- SET: the value, and then the path
abbrev pub set_writes : List Value → Attributes → SetTree → Answer (List Written)
set_writes values old set = after (sum_of values old set.sum) (placed_at set.path.steps old)

-- REMOVE: nothing where the path finds nothing
abbrev pub remove_writes : Attributes → DocPath → Answer (List Written)
remove_writes old path = Ok (if is_some (found path.steps old) then (path.steps, None) ∷ [] else [])

-- ADD: types, and then the path
abbrev pub add_writes : List Value → Attributes → PathValue → Answer (List Written)
add_writes values old add =
    after (there (given values add.value)) (λ value. after (add_of (found add.path.steps old) value) (placed_at add.path.steps old))

-- DELETE: nothing where the path finds nothing
abbrev pub rest_writes : List Step → Option Tree → Answer Tree → Answer (List Written)
rest_writes steps None value = Ok []
rest_writes steps (Some t) value = after value (λ v. after (less_of t v) (λ rest. Ok ((steps, rest) ∷ [])))

abbrev pub delete_writes : List Value → Attributes → PathValue → Answer (List Written)
delete_writes values old delete = rest_writes delete.path.steps (found delete.path.steps old) (there (given values delete.value))

-- the writes so far and those of actions in the order of the text, or the first fault
abbrev pub with_writes : {A : Type 0} → (A → Answer (List Written)) → List A → List Written → Answer (List Written)
with_writes one [] ws = Ok ws
with_writes one (action ∷ actions) ws = after (one action) (λ new. with_writes one actions (ws ++ new))
