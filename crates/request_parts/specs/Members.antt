-- Members of a body that has no fault. What is absent is the empty text, the empty list, the empty item or false.
use Rattle.std.specs.Prelude.{ℕ, List, [], ◌∷◌, Bool, false, Option, Some, None, option_map, unwrap_or, option_and_then, Result, Ok, Err}
use Rattle.serde_json.specs.Data.{Data, null, object, Items, no_items, item}
use Rattle.serde_json.specs.Find.{get, as_str, as_bool, as_array, as_number, as_u64}
use Rattle.attr_value.specs.Tree.{Attributes, no_attributes}
use Rattle.attr_value.specs.Sizes.{most_levels}
use Rattle.attr_json.specs.declared.fault.JsonFault.{JsonFault}
use Rattle.attr_json.specs.Values.{item_of}
use Rattle.api_form.specs.declared.name.Name.{Name}
use Rattle.api_form.specs.Names.{text_of}

-- the text that a value is
abbrev pub text : Data → List ℕ
text d = unwrap_or (as_str d) []

-- the member of this name
abbrev pub member_at : Name → Data → Option Data
member_at name d = get (text_of name) d

abbrev pub inside : Name → Data → Data
inside name d = unwrap_or (member_at name d) null

abbrev pub stated_text : Name → Data → Option (List ℕ)
stated_text name d = option_and_then as_str (member_at name d)

abbrev pub text_at : Name → Data → List ℕ
text_at name d = unwrap_or (stated_text name d) []

abbrev pub stated_flag : Name → Data → Option Bool
stated_flag name d = option_and_then as_bool (member_at name d)

abbrev pub flag_at : Name → Data → Bool
flag_at name d = unwrap_or (stated_flag name d) false

abbrev pub whole : Data → Option ℕ
whole d = option_and_then as_u64 (as_number d)

abbrev pub stated_whole : Name → Data → Option ℕ
stated_whole name d = option_and_then whole (member_at name d)

abbrev pub list_at : Name → Data → Items
list_at name d = unwrap_or (option_and_then as_array (member_at name d)) no_items

-- the elements of a list
abbrev pub elements : Data → Items
elements d = unwrap_or (as_array d) no_items

abbrev pub or_empty : Result Attributes JsonFault → Attributes
or_empty (Ok attributes) = attributes
or_empty (Err fault) = no_attributes

-- the item that JSON states
abbrev pub item_in : Data → Attributes
item_in d = or_empty (item_of d most_levels)

abbrev pub item_at : Name → Data → Attributes
item_at name d = item_in (inside name d)

-- a value where it is an object
abbrev pub only_object : Data → Option Data
only_object (object ms) = Some (object ms)
only_object d = None

-- the object of a member, where it is stated
abbrev pub object_at : Name → Data → Option Data
object_at name d = option_and_then only_object (member_at name d)

-- the item of a member, where it is stated
abbrev pub stated_item : Name → Data → Option Attributes
stated_item name d = option_map item_in (object_at name d)

-- what each element states
abbrev pub each : {A : Type 0} → (Data → A) → Items → List A
each f no_items = []
each f (item d ds) = f d ∷ each f ds
