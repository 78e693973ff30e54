-- What the legacy members of a body state (Developer Guide: Legacy conditional parameters): what clients sent before there were
-- expressions. What they stand for is said by `legacy_params`.
use Rattle.std.specs.Prelude.{◌≡◌, ℕ, List, [], ◌∷◌, ◌++◌, length, map, Bool, true, false, ◌||◌, Option, None, Some, option_map, option_and_then, unwrap_or, Result, Ok, Err}
use Rattle.std.specs.Option.{is_none, is_some}
use Rattle.serde_json.specs.Data.{Data, Members, no_members, member}
use Rattle.serde_json.specs.Find.{as_array}
use Rattle.attr_value.specs.declared.value.Value.{Value as CodeValue}
use Rattle.attr_value.specs.Tree.{Tree as Value}
use Rattle.attr_value.specs.View.{tree_of}
use Rattle.base_types.specs.declared.path.DocPath.{DocPath}
use Rattle.expr_words.specs.declared.parse_end.ParseEnd.TheVariants as parse_end
use Rattle.expr_words.specs.Trees.{tree}
use Rattle.expr_parse.specs.Overlaps.{HaveOverlap}
use Rattle.expr_parse.specs.Update.{update_tree}
use Rattle.api_form.specs.declared.name.Name.{Name}
use Rattle.api_form.specs.declared.name.Name.TheVariants as name
use Rattle.api_form.specs.declared.fault.Fault.TheVariants as fault
use Rattle.api_form.specs.Faults.{unless_null}
use Rattle.legacy_params.specs.declared.fault.LegacyFault.{LegacyFault}
use Rattle.legacy_params.specs.declared.fault.LegacyFault.TheVariants as legacy_fault
use Rattle.legacy_params.specs.declared.part.LegacyTest.{LegacyTest}
use Rattle.legacy_params.specs.declared.part.LegacyChange.{LegacyChange}
use Rattle.legacy_params.specs.Operators.{joins_by_or}
use Rattle.legacy_params.specs.Faults.{least, tests_fault, keys_fault, changes_fault, attributes_fault}
use Rattle.legacy_params.specs.Tests.{test_values}
use Rattle.legacy_params.specs.Changes.{change_values}
use Rattle.legacy_params.specs.Trees.{path_to, condition_of, update_of}
use Rattle.request_parts.specs.declared.refusal.Refusal.{Refusal}
use Rattle.request_parts.specs.declared.refusal.Refusal.TheVariants as refusal
use Rattle.request_parts.specs.declared.legacy.LegacyKind.{LegacyKind}
use Rattle.request_parts.specs.declared.legacy.LegacyKind.TheVariants as kind
use Rattle.request_parts.specs.declared.legacy.LegacyParts.{LegacyParts}
use Rattle.request_parts.specs.declared.legacy.LegacyTrees.{LegacyTrees}
use Rattle.request_parts.specs.Members.{member_at, text, stated_text, text_at, stated_flag, list_at, object_at, each}
use Rattle.request_parts.specs.Placeholders.{members_in, value_in}

-- ---- which members there are

-- the legacy members that a request may have
abbrev pub legacy_names : LegacyKind → List Name
legacy_names kind.Write = name.ConditionalOperator ∷ name.Expected ∷ []
legacy_names kind.Update = name.AttributeUpdates ∷ name.ConditionalOperator ∷ name.Expected ∷ []
legacy_names kind.Read = name.AttributesToGet ∷ []
legacy_names kind.Query = name.AttributesToGet ∷ name.ConditionalOperator ∷ name.KeyConditions ∷ name.QueryFilter ∷ []
legacy_names kind.Scan = name.AttributesToGet ∷ name.ConditionalOperator ∷ name.ScanFilter ∷ []

-- the expressions that it may have in their place
abbrev pub expression_names : LegacyKind → List Name
expression_names kind.Write = name.ConditionExpression ∷ []
expression_names kind.Update = name.ConditionExpression ∷ name.UpdateExpression ∷ []
expression_names kind.Read = name.ProjectionExpression ∷ []
expression_names kind.Query = name.FilterExpression ∷ name.KeyConditionExpression ∷ name.ProjectionExpression ∷ []
expression_names kind.Scan = name.FilterExpression ∷ name.ProjectionExpression ∷ []

-- whether a member is there; null counts as absent
abbrev pub is_stated : Name → Data → Bool
is_stated name d = is_some (unless_null (member_at name d))

abbrev pub any_stated : List Name → Data → Bool
any_stated [] d = false
any_stated (n ∷ ns) d = is_stated n d || any_stated ns d

-- whether a request has legacy members
abbrev pub has_legacy : LegacyKind → Data → Bool
has_legacy k d = any_stated (legacy_names k) d

-- ---- tests, changes and names

-- a test of an attribute, and a change of one, their values as trees
pub record Test : Type 0 where
  pub name : List ℕ
  pub operator : List ℕ
  pub value : Option Value
  pub values : List Value
  pub exists : Option Bool

pub record ShownChange : Type 0 where
  pub name : List ℕ
  pub action : List ℕ
  pub value : Option Value

-- the attribute value of a member, where it is stated
abbrev pub stated_value : Name → Data → Option Value
stated_value name d = option_map value_in (object_at name d)

-- Value and Exists, which only a test of Expected may have (API Reference: ExpectedAttributeValue, Condition)
abbrev pub value_if : Bool → Data → Option Value
value_if true d = stated_value name.Value d
value_if false d = None

abbrev pub exists_if : Bool → Data → Option Bool
exists_if true d = stated_flag name.Exists d
exists_if false d = None

abbrev pub test_in : Bool → List ℕ → Data → Test
test_in expected n d = record {
  name = n;
  operator = text_at name.ComparisonOperator d;
  value = value_if expected d;
  values = each value_in (list_at name.AttributeValueList d);
  exists = exists_if expected d;
}

-- the tests of a member, in the order of their names' bytes, as the members of an object come
abbrev pub tests_in : Bool → Members → List Test
tests_in expected no_members = []
tests_in expected (member k d ms) = test_in expected k d ∷ tests_in expected ms

-- (API Reference: AttributeValueUpdate)
abbrev pub change_in : List ℕ → Data → ShownChange
change_in n d = record { name = n; action = text_at name.Action d; value = stated_value name.Value d }

abbrev pub changes_in : Members → List ShownChange
changes_in no_members = []
changes_in (member k d ms) = change_in k d ∷ changes_in ms

-- ---- what a request states

abbrev pub changes_of : LegacyKind → Data → List ShownChange
changes_of kind.Update d = changes_in (members_in name.AttributeUpdates d)
changes_of k d = []

abbrev pub keys_of : LegacyKind → Data → List Test
keys_of kind.Query d = tests_in false (members_in name.KeyConditions d)
keys_of k d = []

-- of the condition of a write, or of the filter of a page
abbrev pub tests_of : LegacyKind → Data → List Test
tests_of kind.Write d = tests_in true (members_in name.Expected d)
tests_of kind.Update d = tests_in true (members_in name.Expected d)
tests_of kind.Read d = []
tests_of kind.Query d = tests_in false (members_in name.QueryFilter d)
tests_of kind.Scan d = tests_in false (members_in name.ScanFilter d)

-- whether those are joined by OR, where it is stated or not; None where the word is unknown
abbrev pub joined_by : Option (List ℕ) → Option Bool
joined_by None = Some false
joined_by (Some word) = joins_by_or word

abbrev pub joined_of : LegacyKind → Data → Option Bool
joined_of kind.Read d = Some false
joined_of k d = joined_by (stated_text name.ConditionalOperator d)

abbrev pub stated_names : Data → Option (List (List ℕ))
stated_names d = option_map (each text) (option_and_then as_array (member_at name.AttributesToGet d))

abbrev pub names_of : LegacyKind → Data → Option (List (List ℕ))
names_of kind.Write d = None
names_of kind.Update d = None
names_of k d = stated_names d

-- those that the code keeps
abbrev pub shown_test : LegacyTest → Test
shown_test t = record {
  name = t.name;
  operator = t.operator;
  value = option_map tree_of t.value;
  values = map tree_of t.values;
  exists = t.exists;
}

abbrev pub shown_change : LegacyChange → ShownChange
shown_change c = record { name = c.name; action = c.action; value = option_map tree_of c.value }

pub record AreLegacyParts (k : LegacyKind) (d : Data) (p : LegacyParts) : Type 0 where
  pub changes : map shown_change p.changes ≡ changes_of k d
  pub keys : map shown_test p.keys ≡ keys_of k d
  pub tests : map shown_test p.tests ≡ tests_of k d
  pub joined : p.joined_by_or ≡ joined_of k d
  pub names : p.names ≡ names_of k d

-- ---- why they are refused

abbrev pub fault_if : Bool → LegacyFault → Option LegacyFault
fault_if true f = Some f
fault_if false f = None

abbrev pub names_fault : Option (List (List ℕ)) → Option LegacyFault
names_fault None = None
names_fault (Some names) = attributes_fault names

abbrev pub parts_fault : LegacyParts → Option LegacyFault
parts_fault p = least (changes_fault p.changes) (least (keys_fault p.keys) (least (tests_fault p.tests) (names_fault p.names)))

-- of all their faults the first one, by its number
abbrev pub first_legacy : LegacyKind → Data → LegacyParts → Option LegacyFault
first_legacy k d p =
    least (fault_if (any_stated (expression_names k) d) legacy_fault.Mixed)
    (least (fault_if (is_none p.joined_by_or) legacy_fault.BadOperator) (parts_fault p))

-- a Query has to say which keys it reads
abbrev pub lacks_key : LegacyKind → List LegacyTest → Bool
lacks_key kind.Query [] = true
lacks_key k keys = false

-- the paths that are shown
abbrev pub shown_paths : Option (List (List ℕ)) → List DocPath
shown_paths names = map path_to (unwrap_or names [])

pub record AreSound (k : LegacyKind) (d : Data) (p : LegacyParts) : Type 0 where
  pub faultless : first_legacy k d p ≡ None
  pub keyed : lacks_key k p.keys ≡ false
  pub apart : ¬ HaveOverlap (shown_paths p.names)

-- their first fault; a key that is lacking; a path that stands twice, told as of an expression
abbrev pub IsLegacyRefused : LegacyKind → Data → LegacyParts → Refusal → Type 0
IsLegacyRefused k d p (refusal.Legacy f) = first_legacy k d p ≡ Some f
IsLegacyRefused k d p (refusal.Body f) =
    (first_legacy k d p ≡ None) × (lacks_key k p.keys ≡ true) × (f ≡ fault.Missing name.KeyConditionExpression)
IsLegacyRefused k d p (refusal.Expression at f) =
    (first_legacy k d p ≡ None) × (lacks_key k p.keys ≡ false) × HaveOverlap (shown_paths p.names)
    × (at ≡ name.ProjectionExpression) × (f ≡ parse_end.Overlap)
IsLegacyRefused k d p why = ⊥

-- ---- what they stand for

-- the values that come before those of the tests
abbrev pub values_before : LegacyParts → List CodeValue
values_before p = change_values p.changes ++ test_values p.keys

-- values are named by their places in one list: those of changes, then of keys, then of tests
pub record AreLegacyTrees (p : LegacyParts) (t : LegacyTrees) : Type 0 where
  pub update : option_map update_tree t.update ≡ update_of 0 p.changes
  pub keys : option_map tree t.key_condition ≡ condition_of false (length (change_values p.changes)) p.keys
  pub tests : option_map tree t.condition ≡ condition_of (unwrap_or p.joined_by_or false) (length (values_before p)) p.tests
  pub projection : option_map (λ q. q.paths) t.projection ≡ option_map (map path_to) p.names
  pub values : t.values ≡ values_before p ++ test_values p.tests

-- the trees of a request's legacy members, or why they are refused
abbrev pub IsLegacy : LegacyKind → Data → Result LegacyTrees Refusal → Type 0
IsLegacy k d (Ok t) = (p : LegacyParts) × AreLegacyParts k d p × AreSound k d p × AreLegacyTrees p t
IsLegacy k d (Err why) = (p : LegacyParts) × AreLegacyParts k d p × IsLegacyRefused k d p why

-- ---- steps of the code

-- whether the parts are sound, or why they are refused
abbrev pub IsJudgment : LegacyKind → Data → LegacyParts → Result (Unit {0}) Refusal → Type 0
IsJudgment k d p (Ok u) = AreSound k d p
IsJudgment k d p (Err why) = IsLegacyRefused k d p why
