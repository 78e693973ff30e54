-- Worked examples: what the definitions say of small lists and of paths through them.
use Rattle.std.specs.Prelude.{◌≡◌, ℕ, List, [], ◌∷◌, codes, count_by, None, Some}
use Rattle.base_types.specs.declared.path.Step.{Step}
use Rattle.base_types.specs.declared.path.Step.TheVariants.{Name, Index}
use Rattle.attr_value.specs.Paths.{found}
use Rattle.attr_value.specs.Tree.{text, list, map, Trees, no_trees, tree, Attributes, no_attributes, attribute}
use Rattle.path_entries.specs.Order.{AreInOrder}
use Rattle.item_writes.specs.Apart.{AreApart, paths_of}
use Rattle.item_writes.specs.Edits.{item_with_all, list_with_all}
use Rattle.item_writes.specs.NewTree.{Written}
use Rattle.item_writes.specs.ListsByPlace.{appends, appends_before, new_place, taken_out_before}
use Rattle.item_writes.specs.PathsThroughLists.{IsInOrder, HasItsPlaces, HasPlace, KeepsPlaces, new_path, writes_behind}

-- ---- lists and items

abbrev pub one : List ℕ → Trees
one s = tree (text s) no_trees

abbrev pub two : List ℕ → List ℕ → Trees
two s u = tree (text s) (one u)

abbrev pub three : List ℕ → List ℕ → List ℕ → Trees
three s u v = tree (text s) (two u v)

abbrev pub abc : Trees
abc = three (codes "a") (codes "b") (codes "c")

-- the list in which a list of two stands before a text
abbrev pub nested : List ℕ → Trees → Trees
nested last inside = tree (list inside) (one last)

-- the item with this list alone, and the path of a place in it
abbrev pub item : Trees → Attributes
item elements = attribute (codes "list") (list elements) no_attributes

abbrev pub in_list : List Step → List Step
in_list path = Name (codes "list") ∷ path

-- ---- writes

abbrev pub removal : ℕ → Written
removal place = (Index place ∷ [], None)

abbrev pub value : ℕ → List ℕ → Written
value place s = (Index place ∷ [], Some (text s))

-- the second element goes
abbrev pub second_out : List Written
second_out = removal 1 ∷ []

-- two values past the end of three elements
abbrev pub two_more : List Written
two_more = value 5 (codes "d") ∷ value 9 (codes "e") ∷ []

-- the first element goes, the second is written, and one comes past the end
abbrev pub mixed : List Written
mixed = removal 0 ∷ value 1 (codes "B") ∷ value 7 (codes "d") ∷ []

-- of the list in the list the first element goes; the element behind it is written
abbrev pub deep : List Written
deep = (in_list (Index 0 ∷ Index 0 ∷ []), None) ∷ (in_list (Index 1 ∷ []), Some (text (codes "W"))) ∷ []

-- the first element of the item's list goes
abbrev pub first_out : List Written
first_out = (in_list (Index 0 ∷ []), None) ∷ []

-- a value at the place 7 of the item's list
abbrev pub past_the_end : List Written
past_the_end = (in_list (Index 7 ∷ []), Some (text (codes "d"))) ∷ []

-- ---- the examples

pub record Worked : Type 0 where
  -- what the laws ask of writes, of an item and of a path holds here
  pub apart : AreApart (paths_of mixed)
  pub in_order : AreInOrder mixed
  pub names_in_order : IsInOrder (map (item (nested (codes "z") abc)))
  pub has_its_places : HasItsPlaces (in_list (Index 1 ∷ Index 4 ∷ [])) (Some (map (item abc)))
  pub has_place : HasPlace (in_list (Index 0 ∷ Index 2 ∷ [])) (Some (map (item (nested (codes "z") abc))))
  pub keeps_places : KeepsPlaces (in_list (Index 2 ∷ [])) past_the_end
  -- those behind an element that is taken out close up
  pub removed : list_with_all abc second_out ≡ two (codes "a") (codes "c")
  pub closed_up : new_place 2 second_out ≡ 1
  pub in_front : new_place 0 second_out ≡ 0
  -- values past the end come in order of place, without holes
  pub appended :
      list_with_all abc two_more
      ≡ tree (text (codes "a")) (tree (text (codes "b")) (three (codes "c") (codes "d") (codes "e")))
  pub one_before : count_by (appends_before 3 9) two_more ≡ 1
  pub two_in_all : count_by (appends 3) two_more ≡ 2
  -- all at once, by the old places
  pub at_once : list_with_all abc mixed ≡ three (codes "B") (codes "c") (codes "d")
  pub one_out : taken_out_before 3 mixed ≡ 1
  -- a list in a list, and what stands behind it
  pub inner :
      item_with_all (item (nested (codes "z") (two (codes "x") (codes "y")))) deep ≡ item (nested (codes "W") (one (codes "y")))
  pub inner_path : new_path (in_list (Index 0 ∷ Index 1 ∷ [])) deep ≡ in_list (Index 0 ∷ Index 0 ∷ [])
  pub inner_writes : writes_behind (in_list (Index 0 ∷ [])) deep ≡ removal 0 ∷ []
  -- where an element before it is taken out, another stands at the old path, and this one at the new
  pub old_path : found (in_list (Index 1 ∷ [])) (item_with_all (item abc) first_out) ≡ Some (text (codes "c"))
  pub moved : found (new_path (in_list (Index 1 ∷ [])) first_out) (item_with_all (item abc) first_out) ≡ Some (text (codes "b"))
  -- at a place that the list did not have something may stand that was written to another place
  pub no_place : found (in_list (Index 3 ∷ [])) (item abc) ≡ None
  pub filled : found (in_list (Index 3 ∷ [])) (item_with_all (item abc) past_the_end) ≡ Some (text (codes "d"))
