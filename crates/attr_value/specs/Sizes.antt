-- The size of values in bytes, and how deep they nest (DynamoDB Developer Guide, "Item sizes and
-- formats").
use Rattle.std.specs.Prelude.{ℕ, ◌+◌, ◌/◌, max, length, sum_by, ℤ, unsigned_abs}
use Rattle.number38.specs.Digits.{significant_digits}
use Rattle.attr_value.specs.Tree.{Tree, text, number, binary, boolean, null, list, map}
use Rattle.attr_value.specs.Tree.{text_set, number_set, binary_set}
use Rattle.attr_value.specs.Tree.{Trees, no_trees, tree, Attributes, no_attributes, attribute}

-- the significant digits of a number, of which 0 has one
abbrev pub digits : ℤ → ℕ
digits z = max 1 (significant_digits (unsigned_abs z))

-- half the digits, rounded up, and 1
abbrev pub number_size : ℤ → ℕ
number_size z = (digits z + 1) / 2 + 1

abbrev mutual
  -- the bytes of a value
  pub size : Tree → ℕ
  size (text s) = length s
  size (number z) = number_size z
  size (binary s) = length s
  size (boolean b) = 1
  size null = 1
  size (list inside) = 3 + (count inside + elements_size inside)
  size (map inside) = 3 + (attribute_count inside + item_size inside)
  size (text_set s) = sum_by (length {A = ℕ}) s
  size (number_set s) = sum_by number_size s
  size (binary_set s) = sum_by (length {A = ℕ}) s

  -- the elements of a list
  pub count : Trees → ℕ
  count no_trees = 0
  count (tree t rest) = 1 + count rest

  pub elements_size : Trees → ℕ
  elements_size no_trees = 0
  elements_size (tree t rest) = size t + elements_size rest

  -- the attributes of a map
  pub attribute_count : Attributes → ℕ
  attribute_count no_attributes = 0
  attribute_count (attribute name t rest) = 1 + attribute_count rest

  -- the bytes of an item: names and values
  pub item_size : Attributes → ℕ
  item_size no_attributes = 0
  item_size (attribute name t rest) = length name + size t + item_size rest

-- the elements of a list, and 1 for each
abbrev pub list_size : Trees → ℕ
list_size inside = count inside + elements_size inside

abbrev mutual
  -- how many lists and maps lie in one another in a value
  pub depth : Tree → ℕ
  depth (text s) = 0
  depth (number z) = 0
  depth (binary s) = 0
  depth (boolean b) = 0
  depth null = 0
  depth (list inside) = 1 + elements_depth inside
  depth (map inside) = 1 + item_depth inside
  depth (text_set s) = 0
  depth (number_set s) = 0
  depth (binary_set s) = 0

  -- the greatest depth of an element, 0 where there is none
  pub elements_depth : Trees → ℕ
  elements_depth no_trees = 0
  elements_depth (tree t rest) = max (depth t) (elements_depth rest)

  -- the greatest depth of an attribute's value, 0 where there is none
  pub item_depth : Attributes → ℕ
  item_depth no_attributes = 0
  item_depth (attribute name t rest) = max (depth t) (item_depth rest)

-- how many lists and maps may lie in one another (DynamoDB Developer Guide, "Service, account, and table quotas": nested
-- attribute depth)
abbrev pub most_levels : ℕ
most_levels = 32
