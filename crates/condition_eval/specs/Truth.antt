-- When a condition is true of an item.
use Rattle.std.specs.Prelude.{ℕ, ◌*◌, ◌^◌, pos, Bool, false, ◌&&◌, ◌||◌, not, ◌==◌, List, [], ◌∷◌, length, slice_get, bytes_eq, codes}
use Rattle.std.specs.Prelude.{Option, Some, None, option_map, option_and_then, is_some}
use Rattle.std.specs.List.{list_any, starts_with}
use Rattle.std.specs.Ordering.{int_eq, is_lt, is_le, is_gt, is_ge, is_eq, is_ne}
use Rattle.std.specs.declared.cmp.Ordering.{Ordering}
use Rattle.attr_value.specs.Tree as tree
use Rattle.attr_value.specs.Tree.{Tree, Trees, Attributes, text, number, binary, boolean, null, list, map, text_set, number_set, binary_set}
use Rattle.attr_value.specs.Equality.{same, order}
use Rattle.attr_value.specs.Sizes.{count, attribute_count}
use Rattle.attr_value.specs.Paths.{found}
use Rattle.attr_value.specs.View.{tree_of}
use Rattle.attr_value.specs.declared.value.Value.{Value}
use Rattle.expr_words.specs.declared.tree.Comparison.{Comparison}
use Rattle.expr_words.specs.declared.tree.Comparison.TheVariants.{Equal, Unequal, Less, AtMost, More, AtLeast}
use Rattle.expr_words.specs.declared.tree.Operand.{Operand}
use Rattle.expr_words.specs.declared.tree.Operand.TheVariants as operand
use Rattle.expr_words.specs.Trees as condition

-- ---- operands

-- a count as a number
abbrev pub counted : ℕ → Option Tree
counted n = Some (number (pos (n * 10 ^ 167)))

-- what `size` gives: bytes of a text or a binary, elements of a set, a list or a map
abbrev pub measured : Tree → Option Tree
measured (text s) = counted (length s)
measured (binary s) = counted (length s)
measured (text_set s) = counted (length s)
measured (number_set s) = counted (length s)
measured (binary_set s) = counted (length s)
measured (list inside) = counted (count inside)
measured (map inside) = counted (attribute_count inside)
measured (number z) = None
measured (boolean b) = None
measured null = None

-- the value at a place among those that are given
abbrev pub given : List Value → ℕ → Option Tree
given values place = option_map tree_of (slice_get values place)

-- what an operand is of an item: a value, or nothing
abbrev pub seen : List Value → Attributes → Operand → Option Tree
seen values item (operand.Path path) = found path.steps item
seen values item (operand.Value place) = given values place
seen values item (operand.Size path) = option_and_then measured (found path.steps item)

-- ---- comparisons

-- both are there and equal
abbrev pub is_equal : Option Tree → Option Tree → Bool
is_equal (Some t) (Some u) = same t u
is_equal _ _ = false

-- the order of two texts, two numbers or two binaries
abbrev pub order_of : Option Tree → Option Tree → Option Ordering
order_of (Some t) (Some u) = order t u
order_of _ _ = None

abbrev pub passes : Comparison → Option Ordering → Bool
passes op None = false
passes Equal (Some o) = is_eq o
passes Unequal (Some o) = is_ne o
passes Less (Some o) = is_lt o
passes AtMost (Some o) = is_le o
passes More (Some o) = is_gt o
passes AtLeast (Some o) = is_ge o

abbrev pub compared : Comparison → Option Tree → Option Tree → Bool
compared Equal t u = is_equal t u
compared Unequal t u = not (is_equal t u)
compared Less t u = passes Less (order_of t u)
compared AtMost t u = passes AtMost (order_of t u)
compared More t u = passes More (order_of t u)
compared AtLeast t u = passes AtLeast (order_of t u)

abbrev pub is_between : Option Tree → Option Tree → Option Tree → Bool
is_between t low high = compared AtLeast t low && compared AtMost t high

-- equal to one of these operands
abbrev pub is_among : (Operand → Option Tree) → Operand → List Operand → Bool
is_among see x choices = list_any (λ choice. is_equal (see x) (see choice)) choices

-- ---- types

abbrev pub kind_of : Tree → List ℕ
kind_of (text s) = codes "S"
kind_of (number z) = codes "N"
kind_of (binary s) = codes "B"
kind_of (boolean b) = codes "BOOL"
kind_of null = codes "NULL"
kind_of (list inside) = codes "L"
kind_of (map inside) = codes "M"
kind_of (text_set s) = codes "SS"
kind_of (number_set s) = codes "NS"
kind_of (binary_set s) = codes "BS"

abbrev pub is_named : List ℕ → Tree → Bool
is_named kind (text name) = bytes_eq kind name
is_named kind _ = false

-- the value is there and of the type that the text names
abbrev pub is_of_kind : Option Tree → Option Tree → Bool
is_of_kind (Some t) (Some name) = is_named (kind_of t) name
is_of_kind _ _ = false

-- ---- fronts and parts

abbrev pub front_stands : Tree → Tree → Bool
front_stands (text s) (text front) = starts_with ◌==◌ s front
front_stands (binary s) (binary front) = starts_with ◌==◌ s front
front_stands _ _ = false

abbrev pub begins : Option Tree → Option Tree → Bool
begins (Some t) (Some front) = front_stands t front
begins _ _ = false

-- the bytes stand somewhere in the others
abbrev pub is_part : List ℕ → List ℕ → Bool
is_part part [] = starts_with ◌==◌ [] part
is_part part (b ∷ bytes) = starts_with ◌==◌ (b ∷ bytes) part || is_part part bytes

abbrev pub has_element : Tree → Trees → Bool
has_element t tree.no_trees = false
has_element t (tree.tree u rest) = same u t || has_element t rest

-- a substring of a text or a binary, or an element of a set or a list
abbrev pub holds_part : Tree → Tree → Bool
holds_part (text s) (text part) = is_part part s
holds_part (binary s) (binary part) = is_part part s
holds_part (text_set s) (text x) = list_any (λ y. bytes_eq y x) s
holds_part (number_set s) (number x) = list_any (λ y. int_eq y x) s
holds_part (binary_set s) (binary x) = list_any (λ y. bytes_eq y x) s
holds_part (list inside) t = has_element t inside
holds_part _ _ = false

abbrev pub contains : Option Tree → Option Tree → Bool
contains (Some t) (Some part) = holds_part t part
contains _ _ = false

-- ---- conditions

abbrev pub true_of : List Value → Attributes → condition.Tree → Bool
true_of values item (condition.Disjunction a b) = true_of values item a || true_of values item b
true_of values item (condition.Conjunction a b) = true_of values item a && true_of values item b
true_of values item (condition.Negation a) = not (true_of values item a)
true_of values item (condition.Compared op a b) = compared op (seen values item a) (seen values item b)
true_of values item (condition.Range x low high) = is_between (seen values item x) (seen values item low) (seen values item high)
true_of values item (condition.Choice x choices) = is_among (seen values item) x choices
true_of values item (condition.Presence path) = is_some (found path.steps item)
true_of values item (condition.Absence path) = not (is_some (found path.steps item))
true_of values item (condition.KindTest path value) = is_of_kind (found path.steps item) (given values value)
true_of values item (condition.FrontTest x front) = begins (seen values item x) (seen values item front)
true_of values item (condition.PartTest x part) = contains (seen values item x) (seen values item part)
