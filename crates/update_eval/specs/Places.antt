-- Where a path has a place, and which attributes an update touches.
use Rattle.std.specs.Prelude.{ℕ, List, [], ◌∷◌, map as each, ◌||◌, Bool, true, false, bytes_eq, Option, Some, None}
use Rattle.std.specs.List.{list_any}
use Rattle.base_types.specs.declared.path.DocPath.{DocPath}
use Rattle.base_types.specs.declared.path.Step.{Step}
use Rattle.base_types.specs.declared.path.Step.TheVariants.{Name, Index}
use Rattle.attr_value.specs.Tree.{Tree, list, map, Attributes}
use Rattle.attr_value.specs.Paths.{child}
use Rattle.expr_parse.specs.UpdateTree.{UpdateTree, written}

-- a value of the kind that the step needs: a map for a name, a list for a place
abbrev pub takes : Step → Tree → Bool
takes (Name name) (map inside) = true
takes (Index place) (list elements) = true
takes _ _ = false

abbrev pub test_some : (Tree → Bool) → Option Tree → Bool
test_some test None = false
test_some test (Some t) = test t

-- all but the last step lead from this value to one that takes the last
abbrev pub place_in : List Step → Tree → Bool
place_in [] t = false
place_in (last ∷ []) t = takes last t
place_in (step ∷ next ∷ steps) t = test_some (place_in (next ∷ steps)) (child step t)

-- the path's parent is there and of the kind that its last step needs
abbrev pub has_place : List Step → Attributes → Bool
has_place steps old = place_in steps (map old)

abbrev pub is_first : List ℕ → List Step → Bool
is_first name (Name first ∷ steps) = bytes_eq first name
is_first name _ = false

abbrev pub begins_with : List ℕ → DocPath → Bool
begins_with name path = is_first name path.steps

-- a written path begins with the name
abbrev pub touches : UpdateTree → List ℕ → Bool
touches u name = list_any (begins_with name) (written u)

-- the same, kind by kind
abbrev pub touches_by_kind : UpdateTree → List ℕ → Bool
touches_by_kind u name =
    list_any (begins_with name) (each (λ x. x.path) u.sets) || (list_any (begins_with name) u.removes
    || (list_any (begins_with name) (each (λ x. x.path) u.adds) || list_any (begins_with name) (each (λ x. x.path) u.deletes)))
