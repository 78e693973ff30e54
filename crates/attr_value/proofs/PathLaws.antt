-- Putting a value below an attribute or an element, and below a whole path.
use Rattle.std.proofs.Common.{◌≡◌, ◌↔◌, ℕ, zero, suc, List, [], ◌∷◌, slice_get, slice_set, Bool, true, false, cond, Option, Some, None, option_map, option_and_then, bytes_eq, refl, sym, ap, ◌∙◌}
use Rattle.std.specs.BTreeMap.{is_at}
use Rattle.std.specs.Map.{lookup, set_value}
use Rattle.base_types.specs.declared.path.Step.{Step}
use Rattle.base_types.specs.declared.path.Step.TheVariants.{Name, Index}
use Rattle.attr_value.specs.Tree as tree
use Rattle.attr_value.specs.Tree.{Tree, map, list, Trees, Attributes, no_attributes, attribute}
use Rattle.attr_value.specs.Paths.{value_at, put, change, element_at, put_at, placed, with_in, with_value, IsBadPathWhere}
use Rattle.attr_value.specs.View.{tree_of, trees_of, attributes_of}
use Rattle.attr_value.specs.declared.fault.ValueFault.TheVariants.{EmptySet, DuplicateInSet, TooDeep, BadPath}
use Rattle.attr_value.specs.declared.fault.ValueFault.{ValueFault}
use Rattle.base_types.specs.declared.end.End.{End}
use Rattle.base_types.specs.declared.end.End.TheVariants.{Fault, NoMemory}
use Rattle.attr_value.specs.declared.value.Value.{Value}
use Rattle.attr_value.proofs.Views.{Entry, name_cmp, change-set_value}

-- a value put below an attribute, and one that finds no place there
pub with_attribute : (name : List ℕ) (rest : List Step) (inside : Attributes) (there : Option Tree) (below value : Tree) (result : Attributes)
    → value_at name inside ≡ there → with_in rest there value ≡ Some below → put name below inside ≡ result → with_in (Name name ∷ rest) (Some (map inside)) value ≡ Some (map result)
with_attribute name rest inside there below value result here fits is =
    ap (λ o. option_and_then (λ t. placed (Name name) t (map inside)) (with_in rest o value)) here ∙ ap (option_and_then (λ t. placed (Name name) t (map inside))) fits ∙ ap (λ x. Some (map x)) is

none_placed : (step : Step) (t : Tree) (o : Option Tree) → ((below : Tree) → placed step below t ≡ None → ⊥)
    → option_and_then (λ below. placed step below t) o ≡ None → o ≡ None
none_placed step t None always e = refl
none_placed step t (Some below) always e = absurd (always below e)

pub with_no_attribute : (name : List ℕ) (rest : List Step) (inside : Attributes) (there : Option Tree) (value : Tree)
    → value_at name inside ≡ there → with_in rest there value ≡ None ↔ with_in (Name name ∷ rest) (Some (map inside)) value ≡ None
with_no_attribute name rest inside there value here =
    let whole = ap (λ o. option_and_then (λ t. placed (Name name) t (map inside)) (with_in rest o value)) here in (
      λ none. whole ∙ ap (option_and_then (λ t. placed (Name name) t (map inside))) none,
      λ none. none_placed (Name name) (map inside) (with_in rest there value) (λ below e. cc) (sym whole ∙ none),
    )

-- the same below an element
pub with_element : (place : ℕ) (rest : List Step) (inside : Trees) (there : Option Tree) (below value : Tree) (result : Trees)
    → element_at place inside ≡ there → with_in rest there value ≡ Some below → put_at place below inside ≡ result → with_in (Index place ∷ rest) (Some (list inside)) value ≡ Some (list result)
with_element place rest inside there below value result here fits is =
    ap (λ o. option_and_then (λ t. placed (Index place) t (list inside)) (with_in rest o value)) here ∙ ap (option_and_then (λ t. placed (Index place) t (list inside))) fits ∙ ap (λ x. Some (list x)) is

pub with_no_element : (place : ℕ) (rest : List Step) (inside : Trees) (there : Option Tree) (value : Tree)
    → element_at place inside ≡ there → with_in rest there value ≡ None ↔ with_in (Index place ∷ rest) (Some (list inside)) value ≡ None
with_no_element place rest inside there value here =
    let whole = ap (λ o. option_and_then (λ t. placed (Index place) t (list inside)) (with_in rest o value)) here in (
      λ none. whole ∙ ap (option_and_then (λ t. placed (Index place) t (list inside))) none,
      λ none. none_placed (Index place) (list inside) (with_in rest there value) (λ below e. cc) (sym whole ∙ none),
    )

-- a bad path is one however it is said
pub bad_path_along : {P Q : Type 0} → P ↔ Q → (end : End ValueFault) → IsBadPathWhere P end → IsBadPathWhere Q end
bad_path_along f NoMemory h = λ q. h (f.1 q)
bad_path_along f (Fault EmptySet) h = h
bad_path_along f (Fault DuplicateInSet) h = h
bad_path_along f (Fault TooDeep) h = h
bad_path_along f (Fault BadPath) h = f.0 h

same_first : (b : Bool) (x y : Attributes) → y ≡ x → cond b x y ≡ x
same_first true x y e = refl
same_first false x y e = e

change-same : (name : List ℕ) (inside : Attributes) → change name (λ t. Some t) inside ≡ inside
change-same name no_attributes = refl
change-same name (attribute other t rest) = same_first (bytes_eq name other) (attribute other t rest) _ (ap (attribute other t) (change-same name rest))

-- an equal value in place of an attribute's changes nothing
pub attribute_same : (name : List ℕ) (w v : Value) (es : List Entry) → tree_of w ≡ tree_of v → lookup (is_at (name_cmp name)) es ≡ Some v → attributes_of (set_value (is_at (name_cmp name)) es w) ≡ attributes_of es
attribute_same name w v es same here = change-set_value name (λ t. Some t) w v (ap Some same) es here ∙ change-same name (attributes_of es)

-- the same of an element
pub element_same : (place : ℕ) (w v : Value) → tree_of w ≡ tree_of v → (vs : List Value) → slice_get vs place ≡ Some v → trees_of (slice_set vs place w) ≡ trees_of vs
element_same place w v same [] here = refl
element_same zero w v same (u ∷ vs) here =
    let first : u ≡ v = cc in
    ap (λ t. tree.tree t (trees_of vs)) (same ∙ ap tree_of (sym first))
element_same (suc place) w v same (u ∷ vs) here = ap (tree.tree (tree_of u)) (element_same place w v same vs here)

-- ---- from an item on

as_map : (name : List ℕ) (inside : Attributes) (below : Option Tree) → option_and_then (λ t. placed (Name name) t (map inside)) below ≡ option_map map (option_map (λ t. put name t inside) below)
as_map name inside None = refl
as_map name inside (Some t) = refl

map_is : (o : Option Attributes) (result : Attributes) → option_map map o ≡ Some (map result) → o ≡ Some result
map_is None result e = cc
map_is (Some x) result e = cc

map_is_none : (o : Option Attributes) → option_map map o ≡ None → o ≡ None
map_is_none None e = refl
map_is_none (Some x) e = cc

pub item_with : (name : List ℕ) (rest : List Step) (inside : Attributes) (value : Tree) (result : Attributes) → with_in (Name name ∷ rest) (Some (map inside)) value ≡ Some (map result) → with_value (Name name ∷ rest) inside value ≡ Some result
item_with name rest inside value result e = map_is _ result (sym (as_map name inside (with_in rest (value_at name inside) value)) ∙ e)

pub item_with_none : (name : List ℕ) (rest : List Step) (inside : Attributes) (value : Tree) → with_in (Name name ∷ rest) (Some (map inside)) value ≡ None → with_value (Name name ∷ rest) inside value ≡ None
item_with_none name rest inside value e = map_is_none _ (sym (as_map name inside (with_in rest (value_at name inside) value)) ∙ e)
