-- The attribute value that JSON states, or its first fault (DynamoDB API Reference: AttributeValue).
use Rattle.std.specs.Prelude.{ℕ, zero, suc, List, [], ◌∷◌, Bool, true, false, if◌then◌else◌, Option, Some, None, Result, Ok, Err, codes, bytes_eq}
use Rattle.std.specs.Cmp.Lexicographic.{slice_cmp}
use Rattle.std.specs.Ordering.{nat_cmp, int_cmp}
use Rattle.serde_json.specs.Data as json
use Rattle.serde_json.specs.Data.{Data, Items, Members}
use Rattle.attr_value.specs.Tree.{Tree, Trees, no_trees, tree, Attributes, no_attributes, attribute}
use Rattle.attr_value.specs.Tree.{list, map, text_set, number_set, binary_set}
use Rattle.attr_value.specs.Sizes.{most_levels}
use Rattle.attr_json.specs.declared.fault.JsonFault.{JsonFault}
use Rattle.attr_json.specs.declared.fault.JsonFault.TheVariants.{NotOneMember, UnknownType, TooDeep}
use Rattle.attr_json.specs.Steps.{and_then, mapped}
use Rattle.attr_json.specs.Sets.{set_of}
use Rattle.attr_json.specs.Scalars.{number_of, bytes_of, text_value, flag_value}

-- ---- sets

abbrev pub is_string : Data → Bool
is_string (json.string s) = true
is_string d = false

-- whether every element is a string
abbrev pub are_strings : Items → Bool
are_strings json.no_items = true
are_strings (json.item d ds) = if is_string d then are_strings ds else false

abbrev pub string_in : Data → List ℕ
string_in (json.string s) = s
string_in d = []

-- the strings of a list of strings
abbrev pub strings_in : Items → List (List ℕ)
strings_in json.no_items = []
strings_in (json.item d ds) = string_in d ∷ strings_in ds

-- each text read, or the first fault
abbrev pub each : {A : Type 0} → (List ℕ → Result A JsonFault) → List (List ℕ) → Result (List A) JsonFault
each read [] = Ok []
each read (s ∷ ss) = and_then (λ a. mapped (λ rest. a ∷ rest) (each read ss)) (read s)

-- texts under the name of a set's type
abbrev pub set_value : List ℕ → List (List ℕ) → Result Tree JsonFault
set_value name ss =
    if bytes_eq name (codes "SS") then mapped text_set (set_of (slice_cmp nat_cmp) ss)
    else (if bytes_eq name (codes "NS") then mapped number_set (and_then (set_of int_cmp) (each number_of ss))
    else (if bytes_eq name (codes "BS") then mapped binary_set (and_then (set_of (slice_cmp nat_cmp)) (each bytes_of ss))
    else Err UnknownType))

-- ---- values, where so many levels of lists and maps are left

-- what lies one level deeper, where a level is left
abbrev pub deeper : ℕ → (ℕ → Result Tree JsonFault) → Result Tree JsonFault
deeper zero inside = Err TooDeep
deeper (suc levels) inside = inside levels

-- a list under the name of its type, with what its elements are, or under that of a set's
abbrev pub array_value : List ℕ → Items → (ℕ → Result Trees JsonFault) → ℕ → Result Tree JsonFault
array_value name ds elements levels =
    if bytes_eq name (codes "L") then deeper levels (λ below. mapped list (elements below))
    else (if are_strings ds then set_value name (strings_in ds)
    else Err UnknownType)

-- an object under the name of its type, with what its attributes are
abbrev pub object_value : List ℕ → (ℕ → Result Attributes JsonFault) → ℕ → Result Tree JsonFault
object_value name attributes levels =
    if bytes_eq name (codes "M") then deeper levels (λ below. mapped map (attributes below))
    else Err UnknownType

abbrev mutual
  -- an object with one member
  pub value_of : Data → ℕ → Result Tree JsonFault
  value_of (json.object ms) levels = only_of ms levels
  value_of d levels = Err NotOneMember

  pub only_of : Members → ℕ → Result Tree JsonFault
  only_of json.no_members levels = Err NotOneMember
  only_of (json.member name d json.no_members) levels = typed name d levels
  only_of (json.member name d (json.member other e ms)) levels = Err NotOneMember

  -- what stands under the name of a type
  pub typed : List ℕ → Data → ℕ → Result Tree JsonFault
  typed name (json.string s) levels = text_value name s
  typed name (json.boolean flag) levels = flag_value name flag
  typed name (json.array ds) levels = array_value name ds (elements_of ds) levels
  typed name (json.object ms) levels = object_value name (attributes_of ms) levels
  typed name d levels = Err UnknownType

  -- the elements of a list
  pub elements_of : Items → ℕ → Result Trees JsonFault
  elements_of json.no_items levels = Ok no_trees
  elements_of (json.item d ds) levels = and_then (λ t. mapped (tree t) (elements_of ds levels)) (value_of d levels)

  -- the attributes of a map or an item, in order of name
  pub attributes_of : Members → ℕ → Result Attributes JsonFault
  attributes_of json.no_members levels = Ok no_attributes
  attributes_of (json.member name d ms) levels = and_then (λ t. mapped (attribute name t) (attributes_of ms levels)) (value_of d levels)

-- the item that JSON states: the inside of a map, at the top
abbrev pub item_of : Data → ℕ → Result Attributes JsonFault
item_of (json.object ms) levels = attributes_of ms levels
item_of d levels = Err UnknownType

-- the fault of an attribute value at the top, where it has one
abbrev pub fault_in : {A : Type 0} → Result A JsonFault → Option JsonFault
fault_in (Ok a) = None
fault_in (Err fault) = Some fault

abbrev pub value_fault : Data → Option JsonFault
value_fault d = fault_in (value_of d most_levels)
