-- What the placeholders of a body stand for (Developer Guide: Expression attribute names, Expression attribute values).
use Rattle.std.specs.Prelude.{ℕ, List, [], ◌∷◌, map, unwrap_or, option_and_then, Result, Ok, Err}
use Rattle.serde_json.specs.Data.{Data, Members, no_members, member}
use Rattle.serde_json.specs.Find.{as_object}
use Rattle.attr_value.specs.Tree.{Tree as Value, null}
use Rattle.attr_value.specs.View.{tree_of}
use Rattle.attr_value.specs.Sizes.{most_levels}
use Rattle.attr_json.specs.Values.{value_of}
use Rattle.attr_json.specs.declared.fault.JsonFault.{JsonFault}
use Rattle.expr_words.specs.declared.given.Given.{Given}
use Rattle.expr_words.specs.declared.given.NamePair.{NamePair}
use Rattle.api_form.specs.declared.name.Name.{Name}
use Rattle.api_form.specs.declared.name.Name.TheVariants as name
use Rattle.request_parts.specs.declared.placeholder.Placeholders.{Placeholders}
use Rattle.request_parts.specs.Members.{member_at, text}

-- the members of the object that a member is
abbrev pub members_in : Name → Data → Members
members_in name d = unwrap_or (option_and_then as_object (member_at name d)) no_members

abbrev pub name_pairs : Members → List NamePair
name_pairs no_members = []
name_pairs (member k d ms) = record { placeholder = k; name = text d } ∷ name_pairs ms

abbrev pub keys : Members → List (List ℕ)
keys no_members = []
keys (member k d ms) = k ∷ keys ms

abbrev pub or_null : Result Value JsonFault → Value
or_null (Ok value) = value
or_null (Err fault) = null

-- the attribute value that JSON states
abbrev pub value_in : Data → Value
value_in d = or_null (value_of d most_levels)

abbrev pub values_in : Members → List Value
values_in no_members = []
values_in (member k d ms) = value_in d ∷ values_in ms

-- placeholders with what they stand for: names, and values in the order of their placeholders' bytes
pub record Known : Type 0 where
  pub given : Given
  pub values : List Value

-- those that a body states
abbrev pub known : Data → Known
known d = record {
  given = record {
    names = name_pairs (members_in name.ExpressionAttributeNames d);
    value_names = keys (members_in name.ExpressionAttributeValues d);
  };
  values = values_in (members_in name.ExpressionAttributeValues d);
}

-- those of a body that states no values
abbrev pub known_names : Data → Known
known_names d = record {
  given = record { names = name_pairs (members_in name.ExpressionAttributeNames d); value_names = [] };
  values = [];
}

-- those that the code keeps
abbrev pub shown : Placeholders → Known
shown p = record { given = p.given; values = map tree_of p.values }
