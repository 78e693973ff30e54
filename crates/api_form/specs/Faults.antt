-- The faults of a body, in their one order.
use Rattle.std.specs.Prelude.{ℕ, ◌+◌, ◌&&◌, ◌||◌, not, codes, List, [], ◌∷◌, ◌++◌, Bool, true, false, nat_le, nat_lt, nat_eq, if◌then◌else◌, Option, Some, None, option_and_then, unwrap_or, bytes_eq}
use Rattle.std.specs.Option.{is_some}
use Rattle.serde_json.specs.Data.{Data, null, boolean, number, string, array, object, Items, no_items, item, Members, no_members, member, unsigned, negative}
use Rattle.serde_json.specs.Find.{get_member, as_number, as_str, as_u64}
use Rattle.api_form.specs.declared.form.Form.{Form}
use Rattle.api_form.specs.declared.form.Need.{Need}
use Rattle.api_form.specs.declared.form.Need.TheVariants as need
use Rattle.api_form.specs.declared.form.Rule.{Rule}
use Rattle.api_form.specs.declared.form.Rule.TheVariants as rule
use Rattle.api_form.specs.declared.form.Member.{Member}
use Rattle.api_form.specs.declared.name.Name.{Name}
use Rattle.api_form.specs.declared.name.Name.TheVariants as name
use Rattle.api_form.specs.declared.spelling.Spelling.{Spelling}
use Rattle.api_form.specs.declared.spelling.Spelling.TheVariants as spelling
use Rattle.api_form.specs.declared.fault.Stage.{Stage}
use Rattle.api_form.specs.declared.fault.Stage.TheVariants as stage
use Rattle.api_form.specs.declared.fault.Fault.{Fault}
use Rattle.api_form.specs.declared.fault.Fault.TheVariants as fault
use Rattle.attr_json.specs.declared.fault.JsonFault.{JsonFault}
use Rattle.api_form.specs.Names.{text_of}
use Rattle.api_form.specs.Spellings.{is_between, is_spelled}
use Rattle.api_form.specs.Forms.{rule_of, members_of, has_word}
use Rattle.attr_json.specs.Values.{value_fault}

-- ---- what a member is asked for

abbrev pub is_null : Data → Bool
is_null null = true
is_null _ = false

-- a value that is there: null counts as absent
abbrev pub unless_null : Option Data → Option Data
unless_null None = None
unless_null (Some d) = if is_null d then None else Some d

-- the member of this name
abbrev pub stated_at : Name → Members → Option Data
stated_at name ms = unless_null (get_member (text_of name) ms)

abbrev pub is_there : Name → Members → Bool
is_there name ms = is_some (stated_at name ms)

-- whether a member is an object with members
abbrev pub has_members : Data → Bool
has_members (object (member k d ms)) = true
has_members d = false

abbrev pub is_filled : Name → Members → Bool
is_filled name ms = has_members (unwrap_or (stated_at name ms) null)

-- how many of the members of a table are there
abbrev pub stated_count : List Member → Members → ℕ
stated_count [] ms = 0
stated_count (m ∷ table) ms = (if is_there m.0 ms then 1 else 0) + stated_count table ms

-- the whole number of a member, where it is there and one
abbrev pub whole_at : Name → Members → Option ℕ
whole_at name ms = option_and_then as_u64 (option_and_then as_number (stated_at name ms))

-- whether one number is below another, where both are there
abbrev pub is_below : Option ℕ → Option ℕ → Bool
is_below (Some low) (Some high) = nat_lt low high
is_below _ _ = true

-- the text of a member, where it is there and one
abbrev pub text_at : Name → Members → Option (List ℕ)
text_at name ms = option_and_then as_str (stated_at name ms)

-- whether it is stated which attributes are shown
abbrev pub states_projection : Members → Bool
states_projection ms = is_there name.ProjectionExpression ms || is_there name.AttributesToGet ms

-- whether what is selected goes with whether an index is named and whether a projection is stated: the attributes that
-- are projected are those of an index, and a projection is stated just where specific attributes are selected
abbrev pub is_selection : Option (List ℕ) → Bool → Bool → Bool
is_selection None indexed projected = true
is_selection (Some select) indexed projected =
    if bytes_eq select (codes "SPECIFIC_ATTRIBUTES") then projected else (
    if bytes_eq select (codes "ALL_PROJECTED_ATTRIBUTES") then indexed && not projected else not projected)

-- ---- counts of what stands inside

abbrev pub item_count : Items → ℕ
item_count no_items = 0
item_count (item d ds) = 1 + item_count ds

-- how many elements a list has; none where it is no list
abbrev pub array_count : Data → ℕ
array_count (array ds) = item_count ds
array_count _ = 0

abbrev pub list_count : Option Data → ℕ
list_count None = 0
list_count (Some d) = array_count d

-- how much one table of a batch is asked for: its writes, or its keys
abbrev pub request_count : Data → ℕ
request_count (object ms) = list_count (get_member (text_of name.Keys) ms)
request_count d = array_count d

-- how much all tables together are asked for
abbrev pub total_count : Members → ℕ
total_count no_members = 0
total_count (member k d ms) = request_count d + total_count ms

abbrev pub inner_count : List Member → Data → ℕ
inner_count table (object ms) = stated_count table ms
inner_count table _ = 0

-- how many members of a table the elements of a list have together
abbrev pub element_count : List Member → Items → ℕ
element_count table no_items = 0
element_count table (item d ds) = inner_count table d + element_count table ds

-- ---- what is at one place

-- whether the value is of the JSON kind that the rule states; an attribute value may be anything
abbrev pub has_kind : Rule → Data → Bool
has_kind (rule.Object form) (object ms) = true
has_kind (rule.OneOf form) (object ms) = true
has_kind (rule.Map names of) (object ms) = true
has_kind (rule.Tables of most) (object ms) = true
has_kind (rule.List of least most) (array ds) = true
has_kind (rule.AtMostOne of) (array ds) = true
has_kind (rule.Text spelling) (string s) = true
has_kind (rule.Word words) (string s) = true
has_kind (rule.Whole least most) (number (unsigned n)) = true
has_kind (rule.Whole least most) (number (negative z)) = true
has_kind rule.Flag (boolean b) = true
has_kind rule.Value d = true
has_kind _ _ = false

-- whether the value itself, not what is inside it, is in its range
abbrev pub is_in_range : Rule → Data → Bool
is_in_range (rule.OneOf form) (object ms) = nat_eq (stated_count (members_of form) ms) 1
is_in_range (rule.Tables of most) (object ms) = is_between 1 most (total_count ms)
is_in_range (rule.List of least most) (array ds) = is_between least most (item_count ds)
is_in_range (rule.AtMostOne of) (array ds) = nat_le (element_count (members_of of) ds) 1
is_in_range (rule.Text spelling) (string s) = is_spelled spelling s
is_in_range (rule.Word words) (string s) = has_word words s
is_in_range (rule.Whole least most) (number (unsigned n)) = is_between least most n
is_in_range (rule.Whole least most) (number (negative z)) = false
is_in_range _ _ = true

-- a fault where the test fails
abbrev pub unless : Bool → Fault → List Fault
unless true f = []
unless false f = f ∷ []

abbrev pub bad_value : Option JsonFault → List Fault
bad_value None = []
bad_value (Some f) = fault.BadValue f ∷ []

-- the fault of the value itself in the last stage
abbrev pub range_faults : Name → Rule → Data → List Fault
range_faults name rule.Value d = bad_value (value_fault d)
range_faults name rule d = unless (is_in_range rule d) (fault.OutOfRange name)

-- the fault of the value itself, at a stage: Any is the others at once, by which a body without a fault is told
abbrev pub own_faults : Stage → Name → Rule → Data → List Fault
own_faults stage.Kinds name rule d = unless (has_kind rule d) fault.Kind
own_faults stage.Absent name rule d = []
own_faults stage.Ranges name rule d = range_faults name rule d
own_faults stage.Any name rule d = unless (has_kind rule d) fault.Kind ++ range_faults name rule d

-- the fault of a name in a map
abbrev pub key_faults : Stage → Name → Spelling → List ℕ → List Fault
key_faults stage.Ranges name spelling key = unless (is_spelled spelling key) (fault.OutOfRange name)
key_faults stage.Any name spelling key = unless (is_spelled spelling key) (fault.OutOfRange name)
key_faults _ name spelling key = []

-- what a member has to be beside others of its object
abbrev pub sibling_faults : Name → Members → List Fault
sibling_faults name.Select ms =
    unless (is_selection (text_at name.Select ms) (is_there name.IndexName ms) (states_projection ms)) fault.Select
sibling_faults name.TotalSegments ms =
    unless (is_below (whole_at name.Segment ms) (whole_at name.TotalSegments ms)) (fault.OutOfRange name.Segment)
sibling_faults name ms = []

-- the fault of a member beside others of its object, behind its own
abbrev pub beside_faults : Stage → Name → Members → List Fault
beside_faults stage.Ranges name ms = sibling_faults name ms
beside_faults stage.Any name ms = sibling_faults name ms
beside_faults _ name ms = []

-- ---- the walk

-- the faults of a value, still to be asked by stage, by the name of the member that it stands in, and by rule
abbrev pub Asked : Type 0
Asked = Stage → Name → Rule → List Fault

-- whether a member has to be there
abbrev pub is_needed : Need → Members → Bool
is_needed need.Required ms = true
is_needed need.Optional ms = false
is_needed (need.With other) ms = is_there other ms
is_needed (need.UnlessFilled other) ms = not (is_filled other ms)

-- the fault of a member that is absent
abbrev pub absence : Stage → Member → Members → List Fault
absence stage.Absent m ms = unless (not (is_needed m.1 ms)) (fault.Missing m.0)
absence stage.Any m ms = unless (not (is_needed m.1 ms)) (fault.Missing m.0)
absence _ m ms = []

-- the faults of one stated member, by those of the value that stands there
abbrev pub member_faults : Stage → Member → Members → Option Asked → List Fault
member_faults stage m ms None = absence stage m ms
member_faults stage m ms (Some faults) = faults stage m.0 m.2 ++ beside_faults stage m.0 ms

-- the faults of the stated members, in the order of the table, by those of the values that stand at the names
abbrev pub stated_faults : Stage → List Member → Members → (List ℕ → Option Asked) → List Fault
stated_faults stage [] ms at = []
stated_faults stage (m ∷ table) ms at = member_faults stage m ms (at (text_of m.0)) ++ stated_faults stage table ms at

-- the faults inside an object: by its table, or one rule for all members
abbrev pub object_faults : Stage → Rule → Members → (List ℕ → Option Asked) → (Spelling → Rule → List Fault) → List Fault
object_faults stage (rule.Object form) ms at all = stated_faults stage (members_of form) ms at
object_faults stage (rule.OneOf form) ms at all = stated_faults stage (members_of form) ms at
object_faults stage (rule.Map names of) ms at all = all names (rule_of of)
object_faults stage (rule.Tables of most) ms at all = all spelling.TableName (rule_of of)
object_faults stage _ ms at all = []

-- the faults inside a list, with one rule for all elements
abbrev pub list_faults : Rule → (Rule → List Fault) → List Fault
list_faults (rule.List of least most) all = all (rule_of of)
list_faults (rule.AtMostOne of) all = all (rule_of of)
list_faults _ all = []

abbrev mutual
  -- the faults of a value at a stage: its own, and then those inside it
  pub faults : Data → Stage → Name → Rule → List Fault
  faults null stage name rule = own_faults stage name rule null
  faults (boolean b) stage name rule = own_faults stage name rule (boolean b)
  faults (number n) stage name rule = own_faults stage name rule (number n)
  faults (string s) stage name rule = own_faults stage name rule (string s)
  faults (array ds) stage name rule =
      own_faults stage name rule (array ds) ++ list_faults rule (element_faults ds stage name)
  faults (object ms) stage name rule =
      own_faults stage name rule (object ms)
      ++ object_faults stage rule ms (asked_at ms) (entry_faults ms stage name)

  -- the faults of the elements of a list, which are named by the member that holds the list
  pub element_faults : Items → Stage → Name → Rule → List Fault
  element_faults no_items stage name rule = []
  element_faults (item d ds) stage name rule = faults d stage name rule ++ element_faults ds stage name rule

  -- the faults of the members of a map, each with its name, which are named by the member that holds the map
  pub entry_faults : Members → Stage → Name → Spelling → Rule → List Fault
  entry_faults no_members stage name names rule = []
  entry_faults (member k d ms) stage name names rule =
      key_faults stage name names k ++ (faults d stage name rule ++ entry_faults ms stage name names rule)

  -- the faults of the value at a name, unless none is there or null
  pub asked_at : Members → List ℕ → Option (Stage → Name → Rule → List Fault)
  asked_at no_members key = None
  asked_at (member k d ms) key =
      if bytes_eq key k then (if is_null d then None else Some (faults d)) else asked_at ms key

-- all faults of a value: stage after stage
abbrev pub all_faults : Rule → Data → List Fault
all_faults rule d =
    faults d stage.Kinds name.Body rule ++ (faults d stage.Absent name.Body rule ++ faults d stage.Ranges name.Body rule)

-- all faults of a body
abbrev pub body_faults : Form → Data → List Fault
body_faults form d = all_faults (rule_of form) d

-- the first of them
abbrev pub first : List Fault → Option Fault
first [] = None
first (f ∷ fs) = Some f
