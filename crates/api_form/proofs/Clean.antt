-- What has no fault when all stages are looked for at once has none at any of them.
use Rattle.std.proofs.Common.{◌≡◌, ℕ, Bool, true, false, List, [], ◌∷◌, ◌++◌, Option, Some, None, refl, if◌then◌else◌}
use Rattle.std.specs.Prelude.{IfSome, bytes_eq}
use Rattle.serde_json.specs.Data.{Data, null, boolean, number, string, array, object, Items, no_items, item, Members, no_members, member}
use Rattle.api_form.specs.declared.form.Rule.{Rule}
use Rattle.api_form.specs.declared.form.Rule.TheVariants as rule
use Rattle.api_form.specs.declared.form.Member.{Member}
use Rattle.api_form.specs.declared.name.Name.{Name}
use Rattle.api_form.specs.declared.name.Name.TheVariants as name
use Rattle.api_form.specs.declared.spelling.Spelling.{Spelling}
use Rattle.api_form.specs.declared.spelling.Spelling.TheVariants as spelling
use Rattle.api_form.specs.declared.fault.Stage.{Stage}
use Rattle.api_form.specs.declared.fault.Stage.TheVariants as stage
use Rattle.api_form.specs.declared.fault.Fault.{Fault}
use Rattle.api_form.specs.Names.{text_of}
use Rattle.api_form.specs.Forms.{rule_of, members_of}
use Rattle.api_form.specs.Faults.{first, own_faults, key_faults, beside_faults, absence, member_faults, stated_faults, object_faults, list_faults, faults, element_faults, entry_faults, asked_at, Asked, is_null, all_faults}

front_clean : (fs gs : List Fault) → None ≡ first (fs ++ gs) → None ≡ first fs
front_clean [] gs e = refl
front_clean (f ∷ fs) gs e = e

rest_clean : (fs gs : List Fault) → None ≡ first (fs ++ gs) → None ≡ first gs
rest_clean [] gs e = e
rest_clean (f ∷ fs) gs e = cc

both_clean : (fs gs : List Fault) → None ≡ first fs → None ≡ first gs → None ≡ first (fs ++ gs)
both_clean [] gs e h = h
both_clean (f ∷ fs) gs e h = cc

own_clean : (s : Stage) (name : Name) (rule : Rule) (d : Data) → None ≡ first (own_faults stage.Any name rule d) → None ≡ first (own_faults s name rule d)
own_clean stage.Kinds name rule d e = front_clean _ _ e
own_clean stage.Absent name rule d e = refl
own_clean stage.Ranges name rule d e = rest_clean _ _ e
own_clean stage.Any name rule d e = e

key_clean : (s : Stage) (name : Name) (names : Spelling) (key : List ℕ) → None ≡ first (key_faults stage.Any name names key) → None ≡ first (key_faults s name names key)
key_clean stage.Kinds name names key e = refl
key_clean stage.Absent name names key e = refl
key_clean stage.Ranges name names key e = e
key_clean stage.Any name names key e = e

beside_clean : (s : Stage) (name : Name) (ms : Members) → None ≡ first (beside_faults stage.Any name ms) → None ≡ first (beside_faults s name ms)
beside_clean stage.Kinds name ms e = refl
beside_clean stage.Absent name ms e = refl
beside_clean stage.Ranges name ms e = e
beside_clean stage.Any name ms e = e

absence_clean : (s : Stage) (m : Member) (ms : Members) → None ≡ first (absence stage.Any m ms) → None ≡ first (absence s m ms)
absence_clean stage.Kinds m ms e = refl
absence_clean stage.Absent m ms e = e
absence_clean stage.Ranges m ms e = refl
absence_clean stage.Any m ms e = e

-- what is asked of a value has no fault at a stage where it has none at once
abbrev pub IsCleanAt : Stage → Asked → Type 0
IsCleanAt s ask = (name : Name) (rule : Rule) → None ≡ first (ask stage.Any name rule) → None ≡ first (ask s name rule)

abbrev pub AreClean : Stage → (List ℕ → Option Asked) → Type 0
AreClean s at = (key : List ℕ) → IfSome (at key) (IsCleanAt s)

member_clean : (s : Stage) (m : Member) (ms : Members) (ask : Option Asked) → IfSome ask (IsCleanAt s)
    → None ≡ first (member_faults stage.Any m ms ask) → None ≡ first (member_faults s m ms ask)
member_clean s m ms None clean e = absence_clean s m ms e
member_clean s m ms (Some ask) clean e =
    both_clean (ask s m.0 m.2) (beside_faults s m.0 ms) (clean m.0 m.2 (front_clean (ask stage.Any m.0 m.2) _ e))
    (beside_clean s m.0 ms (rest_clean (ask stage.Any m.0 m.2) _ e))

stated_clean : (s : Stage) (table : List Member) (ms : Members) (at : List ℕ → Option Asked) → AreClean s at
    → None ≡ first (stated_faults stage.Any table ms at) → None ≡ first (stated_faults s table ms at)
stated_clean s [] ms at clean e = refl
stated_clean s (m ∷ table) ms at clean e =
    both_clean (member_faults s m ms (at (text_of m.0))) _
    (member_clean s m ms (at (text_of m.0)) (clean (text_of m.0)) (front_clean (member_faults stage.Any m ms (at (text_of m.0))) _ e))
    (stated_clean s table ms at clean (rest_clean (member_faults stage.Any m ms (at (text_of m.0))) _ e))

-- the faults of all members of a map are clean at a stage where they are at once
abbrev pub EntriesClean : Stage → Members → Type 0
EntriesClean s ms = (name : Name) (names : Spelling) (rule : Rule)
    → None ≡ first (entry_faults ms stage.Any name names rule) → None ≡ first (entry_faults ms s name names rule)

object_clean : (s : Stage) (name : Name) (r : Rule) (ms : Members) → AreClean s (asked_at ms) → EntriesClean s ms
    → None ≡ first (object_faults stage.Any r ms (asked_at ms) (entry_faults ms stage.Any name))
    → None ≡ first (object_faults s r ms (asked_at ms) (entry_faults ms s name))
object_clean s name (rule.Object form) ms stated entries e = stated_clean s (members_of form) ms (asked_at ms) stated e
object_clean s name (rule.OneOf form) ms stated entries e = stated_clean s (members_of form) ms (asked_at ms) stated e
object_clean s name (rule.Map names of) ms stated entries e = entries name names (rule_of of) e
object_clean s name (rule.Tables of most) ms stated entries e = entries name spelling.TableName (rule_of of) e
object_clean s name (rule.List of least most) ms stated entries e = refl
object_clean s name (rule.AtMostOne of) ms stated entries e = refl
object_clean s name (rule.Text spelling) ms stated entries e = refl
object_clean s name (rule.Word words) ms stated entries e = refl
object_clean s name (rule.Whole least most) ms stated entries e = refl
object_clean s name rule.Flag ms stated entries e = refl
object_clean s name rule.Value ms stated entries e = refl

abbrev pub ElementsClean : Stage → Items → Type 0
ElementsClean s ds = (name : Name) (rule : Rule)
    → None ≡ first (element_faults ds stage.Any name rule) → None ≡ first (element_faults ds s name rule)

list_clean : (s : Stage) (name : Name) (r : Rule) (ds : Items) → ElementsClean s ds
    → None ≡ first (list_faults r (element_faults ds stage.Any name)) → None ≡ first (list_faults r (element_faults ds s name))
list_clean s name (rule.List of least most) ds elements e = elements name (rule_of of) e
list_clean s name (rule.AtMostOne of) ds elements e = elements name (rule_of of) e
list_clean s name (rule.Object form) ds elements e = refl
list_clean s name (rule.OneOf form) ds elements e = refl
list_clean s name (rule.Map names of) ds elements e = refl
list_clean s name (rule.Tables of most) ds elements e = refl
list_clean s name (rule.Text spelling) ds elements e = refl
list_clean s name (rule.Word words) ds elements e = refl
list_clean s name (rule.Whole least most) ds elements e = refl
list_clean s name rule.Flag ds elements e = refl
list_clean s name rule.Value ds elements e = refl

unless_null_clean : (s : Stage) (b : Bool) (ask : Asked) → IsCleanAt s ask → IfSome (if b then None else Some ask) (IsCleanAt s)
unless_null_clean s true ask clean = tt
unless_null_clean s false ask clean = clean

one_of_clean : (s : Stage) (b : Bool) (one rest : Option Asked) → IfSome one (IsCleanAt s) → IfSome rest (IsCleanAt s)
    → IfSome (if b then one else rest) (IsCleanAt s)
one_of_clean s true one rest here behind = here
one_of_clean s false one rest here behind = behind

mutual
  pub clean : (s : Stage) (d : Data) → IsCleanAt s (faults d)
  clean s null name rule e = own_clean s name rule null e
  clean s (boolean b) name rule e = own_clean s name rule (boolean b) e
  clean s (number n) name rule e = own_clean s name rule (number n) e
  clean s (string t) name rule e = own_clean s name rule (string t) e
  clean s (array ds) name rule e =
      both_clean (own_faults s name rule (array ds)) _
      (own_clean s name rule (array ds) (front_clean (own_faults stage.Any name rule (array ds)) _ e))
      (list_clean s name rule ds (elements_clean s ds) (rest_clean (own_faults stage.Any name rule (array ds)) _ e))
  clean s (object ms) name rule e =
      both_clean (own_faults s name rule (object ms)) _
      (own_clean s name rule (object ms) (front_clean (own_faults stage.Any name rule (object ms)) _ e))
      (object_clean s name rule ms (stated_ones_clean s ms) (entries_clean s ms) (rest_clean (own_faults stage.Any name rule (object ms)) _ e))

  elements_clean : (s : Stage) (ds : Items) → ElementsClean s ds
  elements_clean s no_items name rule e = refl
  elements_clean s (item d ds) name rule e =
      both_clean (faults d s name rule) _ (clean s d name rule (front_clean (faults d stage.Any name rule) _ e))
      (elements_clean s ds name rule (rest_clean (faults d stage.Any name rule) _ e))

  entries_clean : (s : Stage) (ms : Members) → EntriesClean s ms
  entries_clean s no_members name names rule e = refl
  entries_clean s (member k d ms) name names rule e =
      let behind = rest_clean (key_faults stage.Any name names k) _ e in
      both_clean (key_faults s name names k) _ (key_clean s name names k (front_clean (key_faults stage.Any name names k) _ e))
      (both_clean (faults d s name rule) _ (clean s d name rule (front_clean (faults d stage.Any name rule) _ behind))
      (entries_clean s ms name names rule (rest_clean (faults d stage.Any name rule) _ behind)))

  stated_ones_clean : (s : Stage) (ms : Members) → AreClean s (asked_at ms)
  stated_ones_clean s no_members key = tt
  stated_ones_clean s (member k d ms) key =
      one_of_clean s (bytes_eq key k) (if is_null d then None else Some (faults d)) (asked_at ms key)
      (unless_null_clean s (is_null d) (faults d) (clean s d)) (stated_ones_clean s ms key)

-- a body in which one walk finds no fault has none
pub no_fault : (rule : Rule) (d : Data) → None ≡ first (faults d stage.Any name.Body rule) → None ≡ first (all_faults rule d)
no_fault rule d e =
    both_clean (faults d stage.Kinds name.Body rule) _ (clean stage.Kinds d name.Body rule e)
    (both_clean (faults d stage.Absent name.Body rule) _ (clean stage.Absent d name.Body rule e) (clean stage.Ranges d name.Body rule e))
