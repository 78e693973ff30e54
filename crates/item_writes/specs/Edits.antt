-- An item with all writes made at once. The writes are in order of their paths.
use Rattle.std.specs.Prelude.{ℕ, suc, List, [], ◌∷◌, nat_lt, if◌then◌else◌, Option, Some, None}
use Rattle.base_types.specs.declared.path.Step.{Step}
use Rattle.base_types.specs.declared.path.Step.TheVariants.{Name, Index}
use Rattle.attr_value.specs.Tree.{Tree, text, number, binary, boolean, null, list, map, text_set, number_set, binary_set}
use Rattle.attr_value.specs.Tree.{Trees, no_trees, tree, Attributes, no_attributes, attribute}
use Rattle.attr_value.specs.Paths.{put, kept_attribute, kept_element}
use Rattle.path_entries.specs.Entries.{below, is_name, is_place}
use Rattle.item_writes.specs.NewTree.{Written}

-- what stands in a list where the element t stood, of the writes that lead on from it: what is written right there, t
-- where none leads there, and else t with the writes inside it, which is u
abbrev pub standing : List Written → Tree → Tree → Option Tree
standing [] t u = Some t
standing (([], value) ∷ ws) t u = value
standing ((step ∷ steps, value) ∷ ws) t u = Some u

-- what stays of an attribute: nothing where a write is right there
abbrev pub staying : List Written → Tree → Tree → Option Tree
staying [] t u = Some t
staying (([], value) ∷ ws) t u = None
staying ((step ∷ steps, value) ∷ ws) t u = Some u

-- the attributes with the one that a write puts right here
abbrev pub put_one : List Step → Option Tree → Attributes → Attributes
put_one (Name name ∷ []) (Some value) item = put name value item
put_one _ _ item = item

-- with those of all writes that do
abbrev pub put_all : List Written → Attributes → Attributes
put_all [] item = item
put_all (w ∷ ws) item = put_all ws (put_one w.0 w.1 item)

-- what a write puts at a place of a list from this end on, before others
abbrev pub append_one : ℕ → List Step → Option Tree → Trees → Trees
append_one end (Index place ∷ []) (Some value) rest = if nat_lt place end then rest else tree value rest
append_one end _ _ rest = rest

-- what all writes put there, in order of place
abbrev pub appended : ℕ → List Written → Trees
appended end [] = no_trees
appended end (w ∷ ws) = append_one end w.0 w.1 (appended end ws)

abbrev mutual
  -- a value with the writes inside it
  pub inside : Tree → List Written → Tree
  inside (list elements) ws = list (elements_from elements 0 ws)
  inside (map attributes) ws = map (put_all ws (kept_attributes attributes ws))
  inside (text s) ws = text s
  inside (number z) ws = number z
  inside (binary s) ws = binary s
  inside (boolean b) ws = boolean b
  inside null ws = null
  inside (text_set s) ws = text_set s
  inside (number_set s) ws = number_set s
  inside (binary_set s) ws = binary_set s

  -- what stands of the elements from a place on, each with the writes to its old place, and behind them what is put
  -- past the end
  pub elements_from : Trees → ℕ → List Written → Trees
  elements_from no_trees place ws = appended place ws
  elements_from (tree t rest) place ws =
      let here = below (is_place place) ws in
      kept_element (standing here t (inside t here)) (elements_from rest (suc place) ws)

  -- what stays of the attributes
  pub kept_attributes : Attributes → List Written → Attributes
  kept_attributes no_attributes ws = no_attributes
  kept_attributes (attribute name t rest) ws =
      let here = below (is_name name) ws in
      kept_attribute name (staying here t (inside t here)) (kept_attributes rest ws)

-- the element, and what stays of the attribute, with the writes that lead on from there
abbrev pub element : Tree → List Written → Option Tree
element t ws = standing ws t (inside t ws)

abbrev pub kept : Tree → List Written → Option Tree
kept t ws = staying ws t (inside t ws)

-- the item with all writes: those that stay, and those that are put
abbrev pub item_with_all : Attributes → List Written → Attributes
item_with_all item ws = put_all ws (kept_attributes item ws)

abbrev pub list_with_all : Trees → List Written → Trees
list_with_all elements ws = elements_from elements 0 ws
