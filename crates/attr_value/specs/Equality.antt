-- When two values are equal, and the order of two texts, two numbers or two binaries.
use Rattle.std.specs.Prelude.{Bool, true, false, ◌&&◌, Option, Some, None, bytes_eq}
use Rattle.std.specs.Bool.{beq}
use Rattle.std.specs.Cmp.Lexicographic.{pointwise, slice_cmp}
use Rattle.std.specs.Ordering.{nat_cmp, int_cmp, int_eq}
use Rattle.std.specs.declared.cmp.Ordering.{Ordering}
use Rattle.attr_value.specs.Tree.{Tree, text, number, binary, boolean, null, list, map}
use Rattle.attr_value.specs.Tree.{text_set, number_set, binary_set}
use Rattle.attr_value.specs.Tree.{Trees, no_trees, tree, Attributes, no_attributes, attribute}

abbrev mutual
  -- whether two values are of one type with the same content
  pub same : Tree → Tree → Bool
  same (text s) (text u) = bytes_eq s u
  same (number x) (number y) = int_eq x y
  same (binary s) (binary u) = bytes_eq s u
  same (boolean a) (boolean b) = beq a b
  same null null = true
  same (list ts) (list us) = same_elements ts us
  same (map ts) (map us) = same_attributes ts us
  same (text_set s) (text_set u) = pointwise bytes_eq s u
  same (number_set s) (number_set u) = pointwise int_eq s u
  same (binary_set s) (binary_set u) = pointwise bytes_eq s u
  same _ _ = false

  pub same_elements : Trees → Trees → Bool
  same_elements no_trees no_trees = true
  same_elements (tree t ts) (tree u us) = same t u && same_elements ts us
  same_elements _ _ = false

  pub same_attributes : Attributes → Attributes → Bool
  same_attributes no_attributes no_attributes = true
  same_attributes (attribute n t ts) (attribute m u us) =
      bytes_eq n m && same t u && same_attributes ts us
  same_attributes _ _ = false

-- texts and binaries by their unsigned bytes, numbers by value; other values have no order
abbrev pub order : Tree → Tree → Option Ordering
order (text s) (text u) = Some (slice_cmp nat_cmp s u)
order (number x) (number y) = Some (int_cmp x y)
order (binary s) (binary u) = Some (slice_cmp nat_cmp s u)
order _ _ = None
