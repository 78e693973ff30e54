-- A member of an object by its name, in the map and in the data.
use Rattle.std.proofs.Common.{◌≡◌, ℕ, Bool, true, false, cond, List, [], ◌∷◌, length, Option, Some, None, option_map, is_some, String, Vec, Global, string_bytes, nat_cmp, nat_lt, refl, sym, ap, ◌∙◌, arith}
use Rattle.std.proofs.lemmas.Bool.Decides.{nat_tests}
use Rattle.std.specs.Cmp.Lexicographic.{slice_cmp}
use Rattle.std.specs.Map.{lookup}
use Rattle.std.specs.BTreeMap.{is_at}
use Rattle.serde_json.specs.Data.{Data, null, boolean, number, string, array, object}
use Rattle.serde_json.specs.Find.{as_null, get_member}
use Rattle.serde_json.specs.View.{view, items_view, members_view}
use Rattle.serde_json.specs.declared.value.Value.{Value, Array}
use Rattle.serde_json.proofs.Views.{view-Array, view-lookup}
use Rattle.api_form.specs.declared.name.Name.{Name}
use Rattle.api_form.specs.Names.{text_of}
use Rattle.api_form.specs.Faults.{is_null, has_members, stated_at, unless_null, item_count, array_count, list_count, is_in_range}
use Rattle.api_form.specs.Spellings.{is_between}
use Rattle.api_form.specs.declared.form.Form.{Form}
use Rattle.api_form.specs.declared.form.Rule.TheVariants as rule

abbrev pub Entry : Type 0
Entry = String Global × Value

-- what the map has at a name
abbrev pub in_map : List ℕ → List Entry → Option Value
in_map name es = lookup (is_at (λ k. slice_cmp nat_cmp name (string_bytes k))) es

pub is_null-as_null : (d : Data) → is_null d ≡ is_some (as_null d)
is_null-as_null null = refl
is_null-as_null (boolean b) = refl
is_null-as_null (number n) = refl
is_null-as_null (string s) = refl
is_null-as_null (array ds) = refl
is_null-as_null (object ms) = refl

pub member_found : (name : List ℕ) (es : List Entry) (v : Value) → Some v ≡ in_map name es → Some (view v) ≡ get_member name (members_view es)
member_found name es v e = ap (option_map view) e ∙ view-lookup name es

pub member_missed : (name : List ℕ) (es : List Entry) → None ≡ in_map name es → None ≡ get_member name (members_view es)
member_missed name es e = ap (option_map view) e ∙ view-lookup name es

there : (b : Bool) (d : Data) → b ≡ false → Some d ≡ cond b None (Some d)
there true d e = cc
there false d e = refl

gone : (b : Bool) (d : Data) → b ≡ true → None ≡ cond b None (Some d)
gone true d e = refl
gone false d e = cc

-- the value at a name of the map is the stated member, unless it is null
pub stated_there : (m : Name) (name : List ℕ) (es : List Entry) (v : Value) (b : Bool) → name ≡ text_of m → Some v ≡ in_map name es
    → b ≡ is_some (as_null (view v)) → b ≡ false → Some (view v) ≡ stated_at m (members_view es)
stated_there m name es v b is found test holds =
    there _ (view v) (is_null-as_null (view v) ∙ sym test ∙ holds) ∙ ap unless_null (member_found name es v found) ∙ ap (λ n. unless_null (get_member n (members_view es))) is

pub stated_null : (m : Name) (name : List ℕ) (es : List Entry) (v : Value) (b : Bool) → name ≡ text_of m → Some v ≡ in_map name es
    → b ≡ is_some (as_null (view v)) → b ≡ true → None ≡ stated_at m (members_view es)
stated_null m name es v b is found test holds =
    gone _ (view v) (is_null-as_null (view v) ∙ sym test ∙ holds) ∙ ap unless_null (member_found name es v found) ∙ ap (λ n. unless_null (get_member n (members_view es))) is

pub stated_missed : (m : Name) (name : List ℕ) (es : List Entry) → name ≡ text_of m → None ≡ in_map name es → None ≡ stated_at m (members_view es)
stated_missed m name es is missed =
    ap unless_null (member_missed name es missed) ∙ ap (λ n. unless_null (get_member n (members_view es))) is

pub has_members_length : (es : List Entry) → has_members (object (members_view es)) ≡ nat_lt 0 (length es)
has_members_length [] = refl
has_members_length (e ∷ es) = grind (arith, nat_tests)

-- ---- counts

pub item_count-length : (vs : List Value) → item_count (items_view vs) ≡ length vs
item_count-length [] = refl
item_count-length (v ∷ vs) = omega (arith, item_count-length vs)

pub array_length : (n : ℕ) (a : Vec Value Global) → n ≡ length a.items → n ≡ array_count (view (Array a))
array_length n a e = rw (view-Array a, item_count-length a.items) e

pub list_found : (m : Name) (name : List ℕ) (es : List Entry) (v : Value) (n : ℕ) → name ≡ text_of m → Some v ≡ in_map name es → n ≡ array_count (view v)
    → n ≡ list_count (get_member (text_of m) (members_view es))
list_found m name es v n is found e = e ∙ ap list_count (member_found name es v found) ∙ ap (λ k. list_count (get_member k (members_view es))) is

pub list_missed : (m : Name) (name : List ℕ) (es : List Entry) → name ≡ text_of m → None ≡ in_map name es → 0 ≡ list_count (get_member (text_of m) (members_view es))
list_missed m name es is missed = ap list_count (member_missed name es missed) ∙ ap (λ k. list_count (get_member k (members_view es))) is

pub list_range : (of : Form) (least most n : ℕ) (vs : List Value) → n ≡ length vs
    → is_between least most n ≡ is_in_range (rule.List of least most) (array (items_view vs))
list_range of least most n vs e = rw (item_count-length vs, e) refl
