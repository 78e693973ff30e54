-- The first fault of a value, part by part.
use Rattle.std.proofs.Common.{◌≡◌, ℕ, ◌+◌, ◌<◌, Bool, true, false, cond, List, [], ◌∷◌, ◌++◌, length, get_or, drop, Option, Some, None, string_bytes, refl, sym, ap, ◌∙◌, drop-cons, add-one, is_some}
use Rattle.std.proofs.lemmas.Map.Text.{is_eq-slice_cmp}
use Rattle.serde_json.specs.Data.{Data, null, boolean, number, string, array, object, Members}
use Rattle.serde_json.specs.Find.{as_null}
use Rattle.serde_json.specs.View.{view, members_view}
use Rattle.serde_json.specs.declared.value.Value.{Value}
use Rattle.api_form.specs.declared.form.Rule.{Rule}
use Rattle.api_form.specs.declared.form.Member.{Member}
use Rattle.api_form.specs.declared.name.Name.{Name}
use Rattle.api_form.specs.declared.spelling.Spelling.{Spelling}
use Rattle.api_form.specs.declared.fault.Stage.{Stage}
use Rattle.api_form.specs.declared.fault.Fault.{Fault}
use Rattle.api_form.specs.Names.{text_of}
use Rattle.api_form.specs.Faults.{first, own_faults, key_faults, beside_faults, list_faults, object_faults, faults, element_faults, entry_faults, asked_at, Asked, is_null, absence, member_faults, stated_faults}
use Rattle.api_form.proofs.Members.{Entry, in_map, is_null-as_null}

-- where the front has a fault it is the first
pub front_wins : (x : Fault) (xs ys : List Fault) → Some x ≡ first xs → Some x ≡ first (xs ++ ys)
front_wins x [] ys e = cc
front_wins x (y ∷ xs) ys e = e

-- and else the first is that of the rest
pub rest_wins : (xs ys : List Fault) → None ≡ first xs → first ys ≡ first (xs ++ ys)
rest_wins [] ys e = refl
rest_wins (x ∷ xs) ys e = cc

-- the faults inside a value
abbrev pub inside : Data → Stage → Name → Rule → List Fault
inside (array ds) stage name rule = list_faults rule (element_faults ds stage name)
inside (object ms) stage name rule = object_faults stage rule ms (asked_at ms) (entry_faults ms stage name)
inside _ stage name rule = []

-- the value's own fault comes first
pub own_wins : (d : Data) (stage : Stage) (name : Name) (rule : Rule) (x : Fault) → Some x ≡ first (own_faults stage name rule d)
    → Some x ≡ first (faults d stage name rule)
own_wins (array ds) stage name rule x e = front_wins x _ _ e
own_wins (object ms) stage name rule x e = front_wins x _ _ e
own_wins null stage name rule x e = e
own_wins (boolean b) stage name rule x e = e
own_wins (number n) stage name rule x e = e
own_wins (string s) stage name rule x e = e

pub inside_wins : (d : Data) (stage : Stage) (name : Name) (rule : Rule) → None ≡ first (own_faults stage name rule d)
    → first (inside d stage name rule) ≡ first (faults d stage name rule)
inside_wins (array ds) stage name rule e = rest_wins _ _ e
inside_wins (object ms) stage name rule e = rest_wins _ _ e
inside_wins null stage name rule e = e
inside_wins (boolean b) stage name rule e = e
inside_wins (number n) stage name rule e = e
inside_wins (string s) stage name rule e = e

-- ---- the members of an object by name

shown : Option Value → Option Asked
shown None = None
shown (Some v) = cond (is_null (view v)) None (Some (faults (view v)))

picked : (a b : Bool) → a ≡ b → (v : Value) (found : Option Value) (rest : Option Asked) → rest ≡ shown found
    → cond b (cond (is_null (view v)) None (Some (faults (view v)))) rest ≡ shown (cond a (Some v) found)
unfolding shown
picked true true same v found rest e = refl
picked false false same v found rest e = e
picked true false same v found rest e = cc
picked false true same v found rest e = cc

asked_at-in_map : (name : List ℕ) (es : List Entry) → asked_at (members_view es) name ≡ shown (in_map name es)
unfolding shown
asked_at-in_map name [] = refl
asked_at-in_map name (e ∷ es) = picked _ _ (is_eq-slice_cmp name (string_bytes e.0)) e.1 _ _ (asked_at-in_map name es)

none_shown : (b : Bool) (v : Value) → b ≡ true → None ≡ cond b None (Some (faults (view v)))
none_shown true v e = refl
none_shown false v e = cc

all_shown : (b : Bool) (v : Value) → b ≡ false → Some (faults (view v)) ≡ cond b None (Some (faults (view v)))
all_shown true v e = cc
all_shown false v e = refl

asked_missed : (name : List ℕ) (es : List Entry) → None ≡ in_map name es → None ≡ asked_at (members_view es) name
unfolding shown
asked_missed name es e = ap shown e ∙ sym (asked_at-in_map name es)

asked_null : (name : List ℕ) (es : List Entry) (v : Value) → Some v ≡ in_map name es → is_null (view v) ≡ true → None ≡ asked_at (members_view es) name
unfolding shown
asked_null name es v e n = none_shown _ v n ∙ ap shown e ∙ sym (asked_at-in_map name es)

asked_there : (name : List ℕ) (es : List Entry) (v : Value) → Some v ≡ in_map name es → is_null (view v) ≡ false
    → Some (faults (view v)) ≡ asked_at (members_view es) name
unfolding shown
asked_there name es v e n = all_shown _ v n ∙ ap shown e ∙ sym (asked_at-in_map name es)

-- ---- one stated member

pub member_missed : (m : Member) (es : List Entry) (stage : Stage) (name : List ℕ) (r : Option Fault) → name ≡ text_of m.0
    → None ≡ in_map name es → r ≡ first (absence stage m (members_view es))
    → r ≡ first (member_faults stage m (members_view es) (asked_at (members_view es) (text_of m.0)))
member_missed m es stage name r is none e =
    e ∙ ap (λ o. first (member_faults stage m (members_view es) o)) (asked_missed name es none ∙ ap (asked_at (members_view es)) is)

pub member_null : (m : Member) (es : List Entry) (stage : Stage) (name : List ℕ) (r : Option Fault) (v : Value) (b : Bool) → name ≡ text_of m.0
    → Some v ≡ in_map name es → b ≡ is_some (as_null (view v)) → b ≡ true → r ≡ first (absence stage m (members_view es))
    → r ≡ first (member_faults stage m (members_view es) (asked_at (members_view es) (text_of m.0)))
member_null m es stage name r v b is here test holds e =
    e ∙ ap (λ o. first (member_faults stage m (members_view es) o))
    (asked_null name es v here (is_null-as_null (view v) ∙ sym test ∙ holds) ∙ ap (asked_at (members_view es)) is)

pub member_there : (m : Member) (es : List Entry) (stage : Stage) (name : List ℕ) (r : Option Fault) (v : Value) (b : Bool) → name ≡ text_of m.0
    → Some v ≡ in_map name es → b ≡ is_some (as_null (view v)) → b ≡ false
    → r ≡ first (faults (view v) stage m.0 m.2 ++ beside_faults stage m.0 (members_view es))
    → r ≡ first (member_faults stage m (members_view es) (asked_at (members_view es) (text_of m.0)))
member_there m es stage name r v b is here test holds e =
    e ∙ ap (λ o. first (member_faults stage m (members_view es) o))
    (asked_there name es v here (is_null-as_null (view v) ∙ sym test ∙ holds) ∙ ap (asked_at (members_view es)) is)

-- ---- a step of the loop over a table

pub table_found : (table : List Member) (i : ℕ) (d : Member) (ms : Members) (at : List ℕ → Option Asked) (stage : Stage) (x : Fault) → i < length table
    → Some x ≡ first (member_faults stage (get_or table i d) ms (at (text_of (get_or table i d).0))) → Some x ≡ first (stated_faults stage (drop i table) ms at)
table_found table i d ms at stage x h e =
    let split : drop i table ≡ get_or table i d ∷ drop (i + 1) table = rw (add-one, drop-cons table i d) refl in
    rw split (front_wins x (member_faults stage (get_or table i d) ms (at (text_of (get_or table i d).0))) _ e)

pub table_step : (table : List Member) (i : ℕ) (d : Member) (ms : Members) (at : List ℕ → Option Asked) (stage : Stage) → i < length table
    → None ≡ first (member_faults stage (get_or table i d) ms (at (text_of (get_or table i d).0)))
    → first (stated_faults stage (drop (i + 1) table) ms at) ≡ first (stated_faults stage (drop i table) ms at)
table_step table i d ms at stage h e =
    let split : drop i table ≡ get_or table i d ∷ drop (i + 1) table = rw (add-one, drop-cons table i d) refl in
    rw split (rest_wins (member_faults stage (get_or table i d) ms (at (text_of (get_or table i d).0))) _ e)

-- ---- a step of the loop over a map

pub key_found : (e : Entry) (es all : List Entry) (stage : Stage) (name : Name) (names : Spelling) (rule : Rule) (x : Fault) → all ≡ e ∷ es
    → Some x ≡ first (key_faults stage name names (string_bytes e.0)) → Some x ≡ first (entry_faults (members_view all) stage name names rule)
key_found e es all stage name names rule x is found = rw is (front_wins x _ _ found)

pub value_found : (e : Entry) (es all : List Entry) (stage : Stage) (name : Name) (names : Spelling) (rule : Rule) (x : Fault) → all ≡ e ∷ es
    → None ≡ first (key_faults stage name names (string_bytes e.0)) → Some x ≡ first (faults (view e.1) stage name rule)
    → Some x ≡ first (entry_faults (members_view all) stage name names rule)
value_found e es all stage name names rule x is none found =
    rw is (front_wins x (faults (view e.1) stage name rule) (entry_faults (members_view es) stage name names rule) found ∙ rest_wins (key_faults stage name names (string_bytes e.0)) _ none)

pub entry_step : (e : Entry) (es all : List Entry) (stage : Stage) (name : Name) (names : Spelling) (rule : Rule) → all ≡ e ∷ es
    → None ≡ first (key_faults stage name names (string_bytes e.0)) → None ≡ first (faults (view e.1) stage name rule)
    → first (entry_faults (members_view es) stage name names rule) ≡ first (entry_faults (members_view all) stage name names rule)
entry_step e es all stage name names rule is none passed =
    rw is (rest_wins (faults (view e.1) stage name rule) (entry_faults (members_view es) stage name names rule) passed ∙ rest_wins (key_faults stage name names (string_bytes e.0)) _ none)
