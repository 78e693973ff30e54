-- The JSON of an attribute value (DynamoDB API Reference: AttributeValue).
use Rattle.std.specs.Prelude.{ℕ, List, map as each, true, codes}
use Rattle.base64.specs.GeneralPurpose.{encode_of}
use Rattle.base64.specs.Engines.{standard}
use Rattle.number38.specs.Printed.{printed}
use Rattle.serde_json.specs.Data as json
use Rattle.serde_json.specs.Data.{Data, Items, Members}
use Rattle.serde_json.specs.View.{items_of as listed}
use Rattle.attr_value.specs.Tree.{Tree, text, number, binary, boolean, null, list, map, text_set, number_set, binary_set}
use Rattle.attr_value.specs.Tree.{Trees, no_trees, tree, Attributes, no_attributes, attribute}

-- an object with one member, which has the name of a type
abbrev pub under : List ℕ → Data → Data
under name d = json.object (json.member name d json.no_members)

-- a list of strings
abbrev pub strings : {A : Type 0} → (A → List ℕ) → List A → Items
strings text_of xs = listed (each (λ x. json.string (text_of x)) xs)

abbrev pub base64_of : List ℕ → List ℕ
base64_of bytes = encode_of standard bytes

abbrev mutual
  -- the JSON of a value
  pub data_of : Tree → Data
  data_of (text s) = under (codes "S") (json.string s)
  data_of (number z) = under (codes "N") (json.string (printed z))
  data_of (binary bytes) = under (codes "B") (json.string (base64_of bytes))
  data_of (boolean flag) = under (codes "BOOL") (json.boolean flag)
  data_of null = under (codes "NULL") (json.boolean true)
  data_of (list inside) = under (codes "L") (json.array (items_of inside))
  data_of (map inside) = under (codes "M") (json.object (members_of inside))
  data_of (text_set ss) = under (codes "SS") (json.array (strings (λ s. s) ss))
  data_of (number_set zs) = under (codes "NS") (json.array (strings printed zs))
  data_of (binary_set bs) = under (codes "BS") (json.array (strings base64_of bs))

  -- the elements of a list
  pub items_of : Trees → Items
  items_of no_trees = json.no_items
  items_of (tree t rest) = json.item (data_of t) (items_of rest)

  -- the attributes of a map or an item
  pub members_of : Attributes → Members
  members_of no_attributes = json.no_members
  members_of (attribute name t rest) = json.member name (data_of t) (members_of rest)
