-- What paths pick of an item, all of them at once.
use Rattle.std.specs.Prelude.{ℕ, suc, List, [], ◌∷◌, map, Bool, true, false, ◌||◌, if◌then◌else◌, Option, None, Some}
use Rattle.base_types.specs.declared.path.Step.{Step}
use Rattle.base_types.specs.declared.path.DocPath.{DocPath}
use Rattle.attr_value.specs.Tree as tree
use Rattle.attr_value.specs.Tree.{Tree, Trees, no_trees, Attributes, no_attributes, attribute}
use Rattle.attr_value.specs.Tree.{text, number, binary, boolean, null, text_set, number_set, binary_set}
use Rattle.attr_value.specs.Paths.{kept_attribute, kept_element}
use Rattle.path_entries.specs.Entries.{below, is_name, is_place}

-- steps that lead to what is asked for; nothing else is said of their end
abbrev pub Asked : Type 0
Asked = List Step × Unit {0}

-- the paths of a projection
abbrev pub asked : List DocPath → List Asked
asked paths = map (λ path. (path.steps, tt)) paths

abbrev pub is_end : List Step → Bool
is_end [] = true
is_end (first ∷ steps) = false

-- some path ends here
abbrev pub leads_here : List Asked → Bool
leads_here [] = false
leads_here (p ∷ ps) = is_end p.0 || leads_here ps

-- a value is picked whole where a path ends at it, and else what is picked inside it
abbrev pub pick_of : List Asked → Tree → Option Tree → Option Tree
pick_of ps t inside = if leads_here ps then Some t else inside

-- a map or a list of what was picked, where something was
abbrev pub some_map : Attributes → Option Tree
some_map no_attributes = None
some_map (attribute name t rest) = Some (tree.map (attribute name t rest))

abbrev pub some_list : Trees → Option Tree
some_list no_trees = None
some_list (tree.tree t rest) = Some (tree.list (tree.tree t rest))

abbrev mutual
  -- what the paths pick inside a value: something of a map or a list alone
  pub picked_inside : Tree → List Asked → Option Tree
  picked_inside (tree.list inside) ps = some_list (picked_from inside 0 ps)
  picked_inside (tree.map inside) ps = some_map (picked_item inside ps)
  picked_inside (text s) ps = None
  picked_inside (number z) ps = None
  picked_inside (binary s) ps = None
  picked_inside (boolean b) ps = None
  picked_inside null ps = None
  picked_inside (text_set s) ps = None
  picked_inside (number_set s) ps = None
  picked_inside (binary_set s) ps = None

  -- of elements that begin at this place: what the paths below each place pick, in order
  pub picked_from : Trees → ℕ → List Asked → Trees
  picked_from no_trees place ps = no_trees
  picked_from (tree.tree t rest) place ps =
      let here = below (is_place place) ps in
      kept_element (pick_of here t (picked_inside t here)) (picked_from rest (suc place) ps)

  -- of attributes: what the paths below each name pick
  pub picked_item : Attributes → List Asked → Attributes
  picked_item no_attributes ps = no_attributes
  picked_item (attribute name t rest) ps =
      let here = below (is_name name) ps in
      kept_attribute name (pick_of here t (picked_inside t here)) (picked_item rest ps)

-- what the paths pick of a value
abbrev pub picked : Tree → List Asked → Option Tree
picked t ps = pick_of ps t (picked_inside t ps)

-- what they pick of a list's elements
abbrev pub picked_list : Trees → List Asked → Trees
picked_list inside ps = picked_from inside 0 ps
