-- Attributes that are read member by member, in order of their names.
use Rattle.std.proofs.Common.{◌≡◌, ℕ, List, [], ◌∷◌, ◌++◌, Result, Ok, Err, String, Global, string_bytes, string_cmp, Less, Greater, nat_cmp, refl, ap, ◌∙◌}
use Rattle.std.proofs.lemmas.Cmp.{nat_list_cmp_total}
use Rattle.std.specs.Cmp.Lexicographic.{slice_cmp}
use Rattle.std.specs.List.{AllByRecursion}
use Rattle.std.specs.List.Sorted.{IsStrictlySortedBy}
use Rattle.std.specs.Map.{keys_of}
use Rattle.std.specs.Ordering.{ordering_reverse}
use Rattle.serde_json.specs.View.{view, members_view}
use Rattle.serde_json.specs.declared.value.Value.{Value}
use Rattle.attr_value.specs.Tree.{Tree, Attributes, no_attributes, attribute}
use Rattle.attr_value.specs.Paths.{put}
use Rattle.attr_json.specs.declared.fault.JsonFault.{JsonFault}
use Rattle.base_types.specs.declared.end.End.{End}
use Rattle.base_types.specs.declared.end.End.TheVariants.{Fault, NoMemory}
use Rattle.attr_json.specs.Answers.{IsAnswer}
use Rattle.attr_json.specs.Steps.{and_then, mapped}
use Rattle.attr_json.specs.Values.{value_of, attributes_of}

-- a name and the JSON of an attribute
abbrev pub Entry : Type 0
Entry = String Global × Value

first_below : (f : Entry) (fs : List Entry) (e : Entry) (more : List Entry) → AllByRecursion (λ y. string_cmp f.0 y ≡ Less) (keys_of (fs ++ e ∷ more)) → string_cmp f.0 e.0 ≡ Less
first_below f [] e more h = h.0
first_below f (x ∷ fs) e more h = first_below f fs e more h.1

-- where some members are read, the first one and the others are
read_first : (name : List ℕ) (r : Result Tree JsonFault) (s : Result Attributes JsonFault) (found : Attributes)
    → and_then (λ t. mapped (attribute name t) s) r ≡ Ok found
    → (t : Tree) × (rest : Attributes) × (r ≡ Ok t) × (s ≡ Ok rest) × (found ≡ attribute name t rest)
read_first name (Ok t) (Ok rest) found e = (t, rest, refl, refl, (cc))
read_first name (Ok t) (Err fault) found e = absurd (cc)
read_first name (Err fault) s found e = absurd (cc)

-- the first one before the others with one more, which goes behind it
placed : (first : List ℕ) (u : Tree) (r : Result Tree JsonFault) (s : Result Attributes JsonFault) (found rest : Attributes) (name : List ℕ) (t : Tree)
    → r ≡ Ok u → s ≡ Ok (put name t rest) → found ≡ attribute first u rest → slice_cmp nat_cmp name first ≡ Greater
    → and_then (λ x. mapped (attribute first x) s) r ≡ Ok (put name t found)
placed first u r s found rest name t is later whole above = rw (is, later, whole, above) refl

-- one more attribute was read, whose name is above those before it
pub member_step : (done : List Entry) (e : Entry) (more : List Entry) (levels : ℕ) (found : Attributes) (t : Tree)
    → IsStrictlySortedBy string_cmp (keys_of (done ++ e ∷ more)) → attributes_of (members_view done) levels ≡ Ok found → value_of (view e.1) levels ≡ Ok t
    → attributes_of (members_view (done ++ e ∷ [])) levels ≡ Ok (put (string_bytes e.0) t found)
unfolding IsStrictlySortedBy
member_step [] e more levels found t up is value =
    let none : no_attributes ≡ found = cc in
    rw (value, ← none) refl
member_step (f ∷ fs) e more levels found t up is value =
    let p = read_first (string_bytes f.0) (value_of (view f.1) levels) (attributes_of (members_view fs) levels) found is in
    let later = member_step fs e more levels p.1 t up.1 p.3 value in
    let above : slice_cmp nat_cmp (string_bytes e.0) (string_bytes f.0) ≡ Greater =
    nat_list_cmp_total.antisymm (string_bytes e.0) (string_bytes f.0) ∙ ap ordering_reverse (first_below f fs e more up.0) in
    placed (string_bytes f.0) p.0 (value_of (view f.1) levels) (attributes_of (members_view (fs ++ e ∷ [])) levels) found p.1 (string_bytes e.0) t p.2 later p.4 above

-- an attribute is at fault
pub member_fault : (done : List Entry) (e : Entry) (more : List Entry) (levels : ℕ) (found : Attributes) (fault : JsonFault)
    → attributes_of (members_view done) levels ≡ Ok found → value_of (view e.1) levels ≡ Err fault
    → attributes_of (members_view (done ++ e ∷ more)) levels ≡ Err fault
member_fault [] e more levels found fault is value = rw value refl
member_fault (f ∷ fs) e more levels found fault is value =
    let p = read_first (string_bytes f.0) (value_of (view f.1) levels) (attributes_of (members_view fs) levels) found is in
    rw (p.2, member_fault fs e more levels p.1 fault p.3 value) refl

-- where the fault of a part is that of the whole, so is the answer
pub fault_along : {A B C D : Type 0} (part_view : B → A) (whole_view : D → C) (part : Result A JsonFault) (whole : Result C JsonFault) (end : End JsonFault)
    → ((fault : JsonFault) → part ≡ Err fault → whole ≡ Err fault) → IsAnswer part_view part (Err end) → IsAnswer whole_view whole (Err end)
fault_along part_view whole_view part whole (Fault fault) along is = along fault is
fault_along part_view whole_view part whole NoMemory along is = tt
