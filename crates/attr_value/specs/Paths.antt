-- What a document path finds in an item, and the item with or without a value there.
use Rattle.std.specs.Prelude.{◌≡◌, ◌↔◌, ℕ, zero, suc, ◌+◌, ◌-◌, ◌<◌, ◌≤◌, ⊤, if◌then◌else◌}
use Rattle.std.specs.Prelude.{List, [], ◌∷◌, length, bytes_eq}
use Rattle.std.specs.Prelude.{Option, Some, None, option_map, option_and_then}
use Rattle.std.specs.Ordering.{nat_cmp, match_ordering}
use Rattle.std.specs.Cmp.Lexicographic.{slice_cmp}
use Rattle.base_types.specs.declared.path.Step.{Step}
use Rattle.base_types.specs.declared.path.Step.TheVariants.{Name, Index}
use Rattle.attr_value.specs.Tree.{Tree, list, map, Trees, no_trees, tree}
use Rattle.attr_value.specs.Tree.{Attributes, no_attributes, attribute}
use Rattle.attr_value.specs.Sizes.{depth, item_depth}
use Rattle.attr_value.specs.declared.fault.ValueFault.TheVariants.{EmptySet, DuplicateInSet}
use Rattle.attr_value.specs.declared.fault.ValueFault.TheVariants.{TooDeep, BadPath}
use Rattle.attr_value.specs.declared.fault.ValueFault.{ValueFault}
use Rattle.base_types.specs.declared.end.End.{End}
use Rattle.base_types.specs.declared.end.End.TheVariants.{Fault, NoMemory}

-- ---- attributes by name, and elements by place

-- the value of the attribute of this name
abbrev pub value_at : List ℕ → Attributes → Option Tree
value_at name no_attributes = None
value_at name (attribute other t rest) = if bytes_eq name other then Some t else value_at name rest

-- the attributes with this value at this name: an attribute that is there takes it, and a new one
-- goes to its place in order
abbrev pub put : List ℕ → Tree → Attributes → Attributes
put name value no_attributes = attribute name value no_attributes
put name value (attribute other t rest) = match_ordering (slice_cmp nat_cmp name other)
    (attribute name value (attribute other t rest))
    (attribute other value rest)
    (attribute other t (put name value rest))

-- an attribute that keeps a value, or goes
abbrev pub kept_attribute : List ℕ → Option Tree → Attributes → Attributes
kept_attribute name None rest = rest
kept_attribute name (Some t) rest = attribute name t rest

-- the attributes with the one of this name changed, or taken out where nothing stays of its value
abbrev pub change : List ℕ → (Tree → Option Tree) → Attributes → Attributes
change name stays no_attributes = no_attributes
change name stays (attribute other t rest) =
    if bytes_eq name other then kept_attribute other (stays t) rest
    else attribute other t (change name stays rest)

-- the element at a place, from 0
abbrev pub element_at : ℕ → Trees → Option Tree
element_at place no_trees = None
element_at zero (tree t rest) = Some t
element_at (suc place) (tree t rest) = element_at place rest

-- the list with this value at this place, or at its end where the place is past it
abbrev pub put_at : ℕ → Tree → Trees → Trees
put_at place value no_trees = tree value no_trees
put_at zero value (tree t rest) = tree value rest
put_at (suc place) value (tree t rest) = tree t (put_at place value rest)

-- the list with this value at its end
abbrev pub appended : Trees → Tree → Trees
appended no_trees value = tree value no_trees
appended (tree t rest) value = tree t (appended rest value)

-- an element that keeps a value, or goes, so that those after it close up
abbrev pub kept_element : Option Tree → Trees → Trees
kept_element None rest = rest
kept_element (Some t) rest = tree t rest

-- the list with the element at this place changed, or taken out where nothing stays of it
abbrev pub change_at : ℕ → (Tree → Option Tree) → Trees → Trees
change_at place stays no_trees = no_trees
change_at zero stays (tree t rest) = kept_element (stays t) rest
change_at (suc place) stays (tree t rest) = tree t (change_at place stays rest)

-- ---- one step: to an attribute of a map, or to an element of a list

-- the value one step below
abbrev pub child : Step → Tree → Option Tree
child (Name name) (map inside) = value_at name inside
child (Index place) (list inside) = element_at place inside
child _ _ = None

-- the tree with this value one step below, where its kind has such a step
abbrev pub placed : Step → Tree → Tree → Option Tree
placed (Name name) value (map inside) = Some (map (put name value inside))
placed (Index place) value (list inside) = Some (list (put_at place value inside))
placed _ _ _ = None

-- the tree with the value one step below changed, or taken out
abbrev pub changed : Step → (Tree → Option Tree) → Tree → Tree
changed (Name name) stays (map inside) = map (change name stays inside)
changed (Index place) stays (list inside) = list (change_at place stays inside)
changed _ stays t = t

-- ---- paths from a value on

-- what the steps find
abbrev pub found_in : List Step → Tree → Option Tree
found_in [] t = Some t
found_in (step ∷ steps) t = option_and_then (found_in steps) (child step t)

-- what stands at a place once the steps from there lead to this value: nothing where a parent on
-- the way is not there or is of another kind
abbrev pub with_in : List Step → Option Tree → Tree → Option Tree
with_in [] there value = Some value
with_in (step ∷ steps) None value = None
with_in (step ∷ steps) (Some t) value =
    option_and_then (λ below. placed step below t) (with_in steps (child step t) value)

-- with this value where the step and then the rest lead, the old tree is the new
abbrev pub IsWith : Step → List Step → Tree → Tree → Tree → Type 0
IsWith step rest value old new = with_in (step ∷ rest) (Some old) value ≡ Some new

-- the step and then the rest lead to no place for this value in the tree
abbrev pub HasNoPlace : Step → List Step → Tree → Tree → Type 0
HasNoPlace step rest value t = with_in (step ∷ rest) (Some t) value ≡ None

-- what stays of a value without what the steps find
abbrev pub without_in : List Step → Tree → Option Tree
without_in [] t = None
without_in (step ∷ steps) t = Some (changed step (without_in steps) t)

-- ---- paths from an item on, which begin with a name

-- what the path finds
abbrev pub found : List Step → Attributes → Option Tree
found [] item = None
found (step ∷ steps) item = option_and_then (found_in steps) (child step (map item))

-- the item with this value at the path, where the path's parent is there and of the right kind
abbrev pub with_value : List Step → Attributes → Tree → Option Attributes
with_value [] item value = None
with_value (Name name ∷ steps) item value =
    option_map (λ below. put name below item) (with_in steps (value_at name item) value)
with_value (Index place ∷ steps) item value = None

-- the item without what the path finds
abbrev pub without : List Step → Attributes → Attributes
without [] item = item
without (Name name ∷ steps) item = change name (without_in steps) item
without (Index place ∷ steps) item = item

-- how deep an item nests where a path leads to a value: each step but the first lies in one more
-- list or map
abbrev pub reach : List Step → Tree → ℕ
reach steps value = length steps - 1 + depth value

-- this holds exactly where an item that nests within the limit would nest deeper with the value at
-- the path
abbrev pub HoldsWhereDeeper : ℕ → List Step → Attributes → Tree → Type 0 → Type 0
HoldsWhereDeeper limit steps item value P =
    item_depth item ≤ limit → (new : Attributes) → with_value steps item value ≡ Some new
    → P ↔ (limit < item_depth new)

-- the path leads to no place for the value, though the value does not reach too deep
abbrev pub HasBadPath : ℕ → List Step → Attributes → Tree → Type 0
HasBadPath limit steps item value = (reach steps value ≤ limit) × (with_value steps item value ≡ None)

-- the path is bad exactly where this holds, and else memory was refused
abbrev pub IsBadPathWhere : Type 0 → End ValueFault → Type 0
IsBadPathWhere P NoMemory = ¬ P
IsBadPathWhere P (Fault EmptySet) = ⊥
IsBadPathWhere P (Fault DuplicateInSet) = ⊥
IsBadPathWhere P (Fault TooDeep) = ⊥
IsBadPathWhere P (Fault BadPath) = P

-- memory was refused, or the fault is one of `set`
abbrev pub IsPathEnd : End ValueFault → Type 0
IsPathEnd NoMemory = ⊤
IsPathEnd (Fault EmptySet) = ⊥
IsPathEnd (Fault DuplicateInSet) = ⊥
IsPathEnd (Fault TooDeep) = ⊤
IsPathEnd (Fault BadPath) = ⊤
