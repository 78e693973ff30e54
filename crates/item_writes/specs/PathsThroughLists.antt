-- What an item with all writes made has at the end of a path of names and places.
use Rattle.std.specs.Prelude.{◌≡◌, ℕ, ◌<◌, ◌≤◌, List, [], ◌∷◌, ◌++◌, slice_get, Option, Some, None, option_map, Bool, true, false}
use Rattle.std.specs.Prelude.{◌&&◌, ⊤}
use Rattle.std.specs.List.{AllByRecursion}
use Rattle.base_types.specs.declared.path.Step.{Step}
use Rattle.base_types.specs.declared.path.Step.TheVariants.{Name, Index}
use Rattle.attr_value.specs.Paths.{child, element_at, found, value_at}
use Rattle.attr_value.specs.Sizes.{count}
use Rattle.attr_value.specs.Tree.{Tree, list, map, Trees, no_trees, tree, Attributes, no_attributes, attribute, AreInOrder}
use Rattle.path_entries.specs.Entries.{below, is_name, is_place}
use Rattle.item_writes.specs.Apart.{same_step, overlap}
use Rattle.item_writes.specs.Edits.{inside, item_with_all}
use Rattle.item_writes.specs.NewTree.{Written}
use Rattle.item_writes.specs.ListsByPlace.{appended_place, new_place, taken_out_before}

abbrev mutual
  -- a map's names are in order, and so are those of every map in a value, through lists too
  pub IsInOrder : Tree → Type 0
  IsInOrder (map inside) = AreInOrder inside × AttributesAreInOrder inside
  IsInOrder (list inside) = ElementsAreInOrder inside
  IsInOrder _ = ⊤

  -- those of the attributes' values
  pub AttributesAreInOrder : Attributes → Type 0
  AttributesAreInOrder no_attributes = ⊤
  AttributesAreInOrder (attribute name t rest) = IsInOrder t × AttributesAreInOrder rest

  -- those of the elements
  pub ElementsAreInOrder : Trees → Type 0
  ElementsAreInOrder no_trees = ⊤
  ElementsAreInOrder (tree t rest) = IsInOrder t × ElementsAreInOrder rest

-- no written path begins this one, and it begins none
abbrev pub MeetsNone : List Step → List Written → Type 0
MeetsNone path ws = AllByRecursion (λ w. overlap w.0 path ≡ false) ws

-- each place along the path is one that the list there has
abbrev pub HasItsPlaces : List Step → Option Tree → Type 0
HasItsPlaces [] here = ⊤
HasItsPlaces (Index place ∷ path) (Some (list inside)) = (place < count inside) × HasItsPlaces path (element_at place inside)
HasItsPlaces (step ∷ path) (Some t) = HasItsPlaces path (child step t)
HasItsPlaces (step ∷ path) None = ⊤

-- nothing is taken out of a list along the path before the place that the path goes through
abbrev pub KeepsPlaces : List Step → List Written → Type 0
KeepsPlaces [] ws = ⊤
KeepsPlaces (Name name ∷ path) ws = KeepsPlaces path (below (is_name name) ws)
KeepsPlaces (Index place ∷ path) ws = (taken_out_before place ws ≡ 0) × KeepsPlaces path (below (is_place place) ws)

-- the path once all writes are made: each place along it is the element's new one
abbrev pub new_path : List Step → List Written → List Step
new_path [] ws = []
new_path (Name name ∷ path) ws = Name name ∷ new_path path (below (is_name name) ws)
new_path (Index place ∷ path) ws = Index (new_place place ws) ∷ new_path path (below (is_place place) ws)

-- the writes that lead on from the end of a path, each with the rest of its path
abbrev pub writes_behind : List Step → List Written → List Written
writes_behind [] ws = ws
writes_behind (Name name ∷ path) ws = writes_behind path (below (is_name name) ws)
writes_behind (Index place ∷ path) ws = writes_behind path (below (is_place place) ws)

-- the first path begins the second
abbrev pub begins : List Step → List Step → Bool
begins [] q = true
begins (s ∷ p) [] = false
begins (s ∷ p) (t ∷ q) = same_step s t && begins p q

-- no written path begins this one
abbrev pub NoneBegins : List Step → List Written → Type 0
NoneBegins path ws = AllByRecursion (λ w. begins w.0 path ≡ false) ws

-- what stood at the end of a path that no written path begins stands at the end of the new path, with the writes that lead
-- on from there
abbrev pub MakesInnerWrites : Attributes → List Written → Type 0
MakesInnerWrites item ws = (path : List Step) → NoneBegins path ws → HasItsPlaces path (Some (map item))
    → found (new_path path ws) (item_with_all item ws) ≡ option_map (λ t. inside t (writes_behind path ws)) (found path item)

-- what stood at the end of a path that no written path begins, and that begins none, stands at the end of the new path
abbrev pub MovesOtherPaths : Attributes → List Written → Type 0
MovesOtherPaths item ws = (path : List Step) → MeetsNone path ws → HasItsPlaces path (Some (map item))
    → found (new_path path ws) (item_with_all item ws) ≡ found path item

-- and at the end of the path itself, where nothing is taken out before its places
abbrev pub KeepsOtherPaths : Attributes → List Written → Type 0
KeepsOtherPaths item ws = (path : List Step) → MeetsNone path ws → HasItsPlaces path (Some (map item)) → KeepsPlaces path ws
    → found path (item_with_all item ws) ≡ found path item

-- the path leads from what stands here, through a map for each name and a list that has the place for each place
abbrev pub HasPlace : List Step → Option Tree → Type 0
HasPlace [] here = ⊤
HasPlace (Name name ∷ path) (Some (map inside)) = HasPlace path (value_at name inside)
HasPlace (Index place ∷ path) (Some (list inside)) = (place < count inside) × HasPlace path (element_at place inside)
HasPlace (step ∷ path) _ = ⊥

-- what is written at a path that has a place stands at the end of the new path
abbrev pub PutsMoved : Attributes → List Written → Type 0
PutsMoved item ws = (step : Step) (path : List Step) (value : Tree) (k : ℕ) → slice_get ws k ≡ Some (step ∷ path, Some value)
    → HasPlace (step ∷ path) (Some (map item)) → found (new_path (step ∷ path) ws) (item_with_all item ws) ≡ Some value

-- and at the end of the path itself, where nothing is taken out before its places
abbrev pub PutsWritten : Attributes → List Written → Type 0
PutsWritten item ws = (step : Step) (path : List Step) (value : Tree) (k : ℕ) → slice_get ws k ≡ Some (step ∷ path, Some value)
    → HasPlace (step ∷ path) (Some (map item)) → KeepsPlaces (step ∷ path) ws
    → found (step ∷ path) (item_with_all item ws) ≡ Some value

-- what is written past the end of a list that a path leads to stands in the new list behind all that stay, in order of place
abbrev pub AppendsAlongPaths : Attributes → List Written → Type 0
AppendsAlongPaths item ws =
    (path : List Step) (elements : Trees) (place : ℕ) (value : Tree) (k : ℕ) → found path item ≡ Some (list elements)
    → count elements ≤ place → slice_get ws k ≡ Some (path ++ Index place ∷ [], Some value)
    → found (new_path path ws ++ Index (appended_place elements place (writes_behind path ws)) ∷ []) (item_with_all item ws)
    ≡ Some value
