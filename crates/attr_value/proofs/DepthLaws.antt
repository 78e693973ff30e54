-- How deep an item nests with a value put at a path.
use Rattle.std.proofs.Common.{◌≡◌, ◌↔◌, ℕ, zero, suc, ◌+◌, ◌<◌, ◌≤◌, max, List, [], ◌∷◌, length, Bool, true, false, cond, Option, Some, None, option_map, option_and_then, bytes_eq, Ordering, Less, Equal, Greater, nat_cmp, refl, ap, arith}
use Rattle.std.specs.Cmp.Lexicographic.{slice_cmp}
use Rattle.std.specs.Ordering.{match_ordering}
use Rattle.base_types.specs.declared.path.Step.{Step}
use Rattle.base_types.specs.declared.path.Step.TheVariants.{Name, Index}
use Rattle.attr_value.specs.Tree.{Tree, map, list, Trees, no_trees, tree, Attributes, no_attributes, attribute}
use Rattle.attr_value.specs.Paths.{value_at, put, element_at, put_at, child, placed, with_in, with_value, reach, HoldsWhereDeeper}
use Rattle.attr_value.specs.Sizes.{depth, elements_depth, item_depth}

-- how deep what is there nests, 0 where nothing is
abbrev depth_there : Option Tree → ℕ
depth_there None = 0
depth_there (Some t) = depth t

-- what nests this deep came in, and nothing else became deeper
abbrev pub TakesIn : ℕ → ℕ → ℕ → Type 0
TakesIn deep old new = (deep ≤ new) × (new ≤ max deep old)

-- ---- one step

first_or_rest : (b : Bool) (t : Tree) (rest : Option Tree) (n : ℕ) → depth_there rest ≤ n
    → depth_there (cond b (Some t) rest) ≤ max (depth t) n
first_or_rest true t rest n below = omega arith
first_or_rest false t rest n below = omega (arith, below)

value_at-depth : (name : List ℕ) (inside : Attributes) → depth_there (value_at name inside) ≤ item_depth inside
value_at-depth name no_attributes = omega arith
value_at-depth name (attribute other t rest) =
    first_or_rest (bytes_eq name other) t (value_at name rest) (item_depth rest) (value_at-depth name rest)

element_at-depth : (place : ℕ) (inside : Trees) → depth_there (element_at place inside) ≤ elements_depth inside
element_at-depth place no_trees = omega arith
element_at-depth zero (tree t rest) = omega arith
element_at-depth (suc place) (tree t rest) = omega (arith, element_at-depth place rest)

put_first : (o : Ordering) (name other : List ℕ) (value t : Tree) (rest later : Attributes)
    → TakesIn (depth value) (item_depth rest) (item_depth later)
    → TakesIn (depth value) (item_depth (attribute other t rest))
    (item_depth (match_ordering o (attribute name value (attribute other t rest)) (attribute other value rest)
    (attribute other t later)))
put_first Less name other value t rest later in_rest = (omega arith, omega arith)
put_first Equal name other value t rest later in_rest = (omega arith, omega arith)
put_first Greater name other value t rest later in_rest =
    (omega (arith, in_rest.0), omega (arith, in_rest.0, in_rest.1))

put-depth : (name : List ℕ) (value : Tree) (inside : Attributes)
    → TakesIn (depth value) (item_depth inside) (item_depth (put name value inside))
put-depth name value no_attributes = (omega arith, omega arith)
put-depth name value (attribute other t rest) =
    put_first (slice_cmp nat_cmp name other) name other value t rest (put name value rest) (put-depth name value rest)

put_at-depth : (place : ℕ) (value : Tree) (inside : Trees)
    → TakesIn (depth value) (elements_depth inside) (elements_depth (put_at place value inside))
put_at-depth place value no_trees = (omega arith, omega arith)
put_at-depth zero value (tree t rest) = (omega arith, omega arith)
put_at-depth (suc place) value (tree t rest) =
    let in_rest = put_at-depth place value rest in
    (omega (arith, in_rest.0), omega (arith, in_rest.0, in_rest.1))

placed-depth : (step : Step) (below t new : Tree) → placed step below t ≡ Some new
    → TakesIn (1 + depth below) (depth t) (depth new) × (1 + depth_there (child step t) ≤ depth t)
placed-depth (Name name) below (map inside) new e =
    let is : map (put name below inside) ≡ new = cc in
    let deep = ap depth is in
    let taken = put-depth name below inside in (
      (omega (arith, deep, taken.0), omega (arith, deep, taken.0, taken.1)),
      omega (arith, value_at-depth name inside),
    )
placed-depth (Index place) below (list inside) new e =
    let is : list (put_at place below inside) ≡ new = cc in
    let deep = ap depth is in
    let taken = put_at-depth place below inside in (
      (omega (arith, deep, taken.0), omega (arith, deep, taken.0, taken.1)),
      omega (arith, element_at-depth place inside),
    )
placed-depth _ below t new e = cc

-- ---- a path

below_step : (step : Step) (t new : Tree) (deep : ℕ) (o : Option Tree)
    → ((below : Tree) → o ≡ Some below → TakesIn deep (depth_there (child step t)) (depth below))
    → option_and_then (λ below. placed step below t) o ≡ Some new → TakesIn (1 + deep) (depth t) (depth new)
below_step step t new deep None taken e = cc
below_step step t new deep (Some below) taken e =
    let inside = taken below refl in
    let outside = placed-depth step below t new e in
    (omega (arith, inside.0, outside.0.0), omega (arith, inside.1, outside.0.1, outside.1))

with_in-depth : (steps : List Step) (there : Option Tree) (value new : Tree) → with_in steps there value ≡ Some new
    → TakesIn (length steps + depth value) (depth_there there) (depth new)
with_in-depth [] there value new e =
    let is : value ≡ new = cc in
    let deep = ap depth is in
    (omega (arith, deep), omega (arith, deep))
with_in-depth (step ∷ steps) None value new e = cc
with_in-depth (step ∷ steps) (Some t) value new e =
    let taken = below_step step t new (length steps + depth value) (with_in steps (child step t) value)
    (with_in-depth steps (child step t) value) e in
    (omega (arith, taken.0), omega (arith, taken.1))

-- ---- a path from an item on

below_item : (name : List ℕ) (item new : Attributes) (deep : ℕ) (o : Option Tree)
    → ((below : Tree) → o ≡ Some below → TakesIn deep (depth_there (value_at name item)) (depth below))
    → option_map (λ below. put name below item) o ≡ Some new → TakesIn deep (item_depth item) (item_depth new)
below_item name item new deep None taken e = cc
below_item name item new deep (Some below) taken e =
    let is : put name below item ≡ new = cc in
    let depths = ap item_depth is in
    let inside = taken below refl in
    let outside = put-depth name below item in
    let there = value_at-depth name item in
    (omega (arith, depths, inside.0, outside.0), omega (arith, depths, inside.1, outside.1, there))

with_value-depth : (steps : List Step) (item new : Attributes) (value : Tree) → with_value steps item value ≡ Some new
    → TakesIn (reach steps value) (item_depth item) (item_depth new)
with_value-depth [] item new value e = cc
with_value-depth (Name name ∷ steps) item new value e =
    let taken = below_item name item new (length steps + depth value) (with_in steps (value_at name item) value)
    (with_in-depth steps (value_at name item) value) e in
    (omega (arith, taken.0), omega (arith, taken.1))
with_value-depth (Index place ∷ steps) item new value e = cc

-- a value that does not reach deeper than the limit leaves an item within it
pub stays_within : (limit : ℕ) (steps : List Step) (item new : Attributes) (value : Tree)
    → with_value steps item value ≡ Some new → (limit < reach steps value → ⊥) → item_depth item ≤ limit
    → item_depth new ≤ limit
stays_within limit steps item new value e near within =
    let taken = with_value-depth steps item new value e in
    omega (arith, taken.1, near, within)

-- what reaches deeper than the limit is what makes the item nest deeper
pub deeper : (limit : ℕ) (steps : List Step) (item : Attributes) (value : Tree) {P : Type 0}
    → P ↔ (limit < reach steps value) → HoldsWhereDeeper limit steps item value P
deeper limit steps item value same within new e =
    let taken = with_value-depth steps item new value e in
    (λ p. omega (arith, taken.0, same.0 p), λ deep. same.1 (omega (arith, taken.1, within, deep)))
