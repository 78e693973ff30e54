-- What is written is read back as the same value.
use Rattle.std.specs.Prelude.{◌≡◌, ℕ, ◌≤◌, Ok}
use Rattle.attr_value.specs.Tree.{Tree, Trees, Attributes}
use Rattle.attr_value.specs.Sizes.{depth, elements_depth, item_depth}
use Rattle.attr_json.specs.Values.{value_of, elements_of, attributes_of}
use Rattle.attr_json.specs.Written.{data_of, items_of, members_of}

-- the JSON of the value states that value, where its levels are left
abbrev pub ReadsBack : Tree → Type 0
ReadsBack t = (levels : ℕ) → depth t ≤ levels → value_of (data_of t) levels ≡ Ok t

-- the same of the elements of a list
abbrev pub ElementsReadBack : Trees → Type 0
ElementsReadBack ts = (levels : ℕ) → elements_depth ts ≤ levels → elements_of (items_of ts) levels ≡ Ok ts

-- the same of the attributes of a map or an item
abbrev pub AttributesReadBack : Attributes → Type 0
AttributesReadBack attributes =
    (levels : ℕ) → item_depth attributes ≤ levels → attributes_of (members_of attributes) levels ≡ Ok attributes
