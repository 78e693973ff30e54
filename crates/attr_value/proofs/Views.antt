-- A map of the code beside the attributes that it stands for.
use Rattle.std.proofs.Common.{◌≡◌, ◌↔◌, ℕ, List, [], ◌∷◌, ◌++◌, Option, Some, None, option_map, option_and_then, is_some, Ordering, Less, Equal, Greater, nat_cmp, is_eq, cond, Bool, true, false, bytes_eq, Bor, zero, suc, ◌<◌, ◌≤◌, length, slice_get, slice_set, remove, refl, sym, subst, ap, ◌∙◌, arith}
use Rattle.std.proofs.lemmas.Cmp.{nat_list_cmp_total}
use Rattle.std.proofs.lemmas.Map.Text.{is_eq-slice_cmp}
use Rattle.std.specs.Cmp.Lexicographic.{slice_cmp}
use Rattle.std.specs.List.{AllByRecursion}
use Rattle.std.specs.List.Sorted.{IsStrictlySortedBy}
use Rattle.std.proofs.lemmas.Map.{lookup-none}
use Rattle.std.proofs.lemmas.Map.Entries.{none_below_head}
use Rattle.std.proofs.lemmas.Map.Keys.{sorted_tail}
use Rattle.std.specs.Map.{keys_of, lookup, set_value, remove_entry}
use Rattle.std.specs.Ordering.{match_ordering, ordering_reverse}
use Rattle.std.specs.BTreeMap.{insert_entry, is_at}
use Rattle.base_types.specs.declared.path.Step.{Step}
use Rattle.attr_value.specs.Tree as tree
use Rattle.attr_value.specs.Tree.{Tree, Trees, Attributes, no_attributes, attribute, IsBelowNames, AreInOrder}
use Rattle.attr_value.specs.View.{tree_of, trees_of, attributes_of}
use Rattle.attr_value.specs.Paths.{put, appended, value_at, element_at, change, kept_attribute, change_at, kept_element, put_at, without_in, found_in}
use Rattle.attr_value.specs.Sizes.{count}
use Rattle.attr_value.specs.declared.value.Value.{Value}

abbrev pub Entry : Type 0
Entry = List ℕ × Value

-- the order of names
abbrev pub name_cmp : List ℕ → List ℕ → Ordering
name_cmp = slice_cmp nat_cmp

attributes_of-match_ordering : (o : Ordering) (a b c : List Entry) → attributes_of (match_ordering o a b c) ≡ match_ordering o (attributes_of a) (attributes_of b) (attributes_of c)
attributes_of-match_ordering Less a b c = refl
attributes_of-match_ordering Equal a b c = refl
attributes_of-match_ordering Greater a b c = refl

pub attributes_of-insert_entry : (es : List Entry) (name : List ℕ) (v : Value) → attributes_of (insert_entry name_cmp es name v) ≡ put name (tree_of v) (attributes_of es)
attributes_of-insert_entry [] name v = refl
attributes_of-insert_entry (e ∷ es) name v = attributes_of-match_ordering (name_cmp name e.0) _ _ _ ∙ rw (attributes_of-insert_entry es name v)

below_names : (name : List ℕ) (es : List Entry) → AllByRecursion (λ y. name_cmp name y ≡ Less) (keys_of es) → IsBelowNames name (attributes_of es)
below_names name [] below = tt
below_names name (e ∷ es) below = (below.0, below_names name es below.1)

-- a map's names are in order
pub attributes_in_order : (es : List Entry) → IsStrictlySortedBy name_cmp (keys_of es) → AreInOrder (attributes_of es)
unfolding IsStrictlySortedBy
attributes_in_order [] up = tt
attributes_in_order (e ∷ es) up = (below_names e.0 es up.0, attributes_in_order es up.1)

-- what has no entry has no attribute
pub no_entries : (es : List Entry) → (length es ≡ 0) ↔ (attributes_of es ≡ no_attributes)
no_entries [] = (λ _. refl, λ _. refl)
no_entries (e ∷ es) = (λ none. absurd (omega arith), λ none. cc)

below_middle : (first : Entry) (es : List Entry) (e : Entry) (more : List Entry) → AllByRecursion (λ y. name_cmp first.0 y ≡ Less) (keys_of (es ++ e ∷ more)) → name_cmp first.0 e.0 ≡ Less
below_middle first [] e more h = h.0
below_middle first (x ∷ es) e more h = below_middle first es e more h.1

-- a name that is above those before it goes last
pub insert_last : (done : List Entry) (e : Entry) (more : List Entry) → IsStrictlySortedBy name_cmp (keys_of (done ++ e ∷ more))
    → insert_entry name_cmp done e.0 e.1 ≡ done ++ e ∷ []
unfolding IsStrictlySortedBy
insert_last [] e more h = refl
insert_last (first ∷ done) e more h =
    let above : name_cmp e.0 first.0 ≡ Greater = nat_list_cmp_total.antisymm e.0 first.0 ∙ ap ordering_reverse (below_middle first done e more h.0) in
    rw above (ap (λ es. first ∷ es) (insert_last done e more h.1))

found_or : (a b : Bool) → a ≡ b → (v : Value) (rest : Option Value) (d : Option Tree) → option_map tree_of rest ≡ d → option_map tree_of (cond a (Some v) rest) ≡ cond b (Some (tree_of v)) d
found_or true true same v rest d e = refl
found_or true false same v rest d e = cc
found_or false true same v rest d e = cc
found_or false false same v rest d e = e

pub value_at-lookup : (name : List ℕ) (es : List Entry) → option_map tree_of (lookup (is_at (name_cmp name)) es) ≡ value_at name (attributes_of es)
value_at-lookup name [] = refl
value_at-lookup name (e ∷ es) = found_or _ _ (is_eq-slice_cmp name e.0) e.1 _ _ (value_at-lookup name es)

-- the tree behind what a look-up lends
pub lent : (r : Option (Bor Value)) → option_map (λ x. tree_of x.now) r ≡ option_map tree_of (option_map (λ x. x.now) r)
lent None = refl
lent (Some x) = refl

-- ---- lists

pub element_at-get : (vs : List Value) (place : ℕ) → option_map tree_of (slice_get vs place) ≡ element_at place (trees_of vs)
element_at-get [] place = refl
element_at-get (v ∷ vs) zero = refl
element_at-get (v ∷ vs) (suc place) = element_at-get vs place

pub element_found : (place : ℕ) (vs : List Value) (v : Option Value) → v ≡ slice_get vs place → element_at place (trees_of vs) ≡ option_map tree_of v
element_found place vs v here = sym (element_at-get vs place) ∙ ap (option_map tree_of) (sym here)

pub element_past : (place : ℕ) (vs : List Value) → length vs ≤ place → element_at place (trees_of vs) ≡ None
element_past place [] past = refl
element_past zero (v ∷ vs) past = absurd (omega arith)
element_past (suc place) (v ∷ vs) past = element_past place vs (omega arith)

-- ---- attributes and elements that are changed

both_taken : (a b : Bool) → a ≡ b → (xs ys : List Entry) (us vs : Attributes) → attributes_of xs ≡ us → attributes_of ys ≡ vs → attributes_of (cond a xs ys) ≡ cond b us vs
both_taken true true same xs ys us vs p q = p
both_taken true false same xs ys us vs p q = cc
both_taken false true same xs ys us vs p q = cc
both_taken false false same xs ys us vs p q = q

-- an attribute that is taken out
pub change-remove_entry : (name : List ℕ) (es : List Entry) → attributes_of (remove_entry (is_at (name_cmp name)) es) ≡ change name (without_in []) (attributes_of es)
change-remove_entry name [] = refl
change-remove_entry name (e ∷ es) = both_taken _ _ (is_eq-slice_cmp name e.0) es _ _ _ refl (ap (attribute e.0 (tree_of e.1)) (change-remove_entry name es))

change_first : (a b : Bool) → a ≡ b → (stays : Tree → Option Tree) (w v : Value) → Some (tree_of w) ≡ stays (tree_of v) → (e : Entry) (es fs : List Entry) (found : Option Value) (rest : Attributes)
    → cond a (Some e.1) found ≡ Some v → (found ≡ Some v → attributes_of fs ≡ rest)
    → attributes_of (cond a ((e.0, w) ∷ es) (e ∷ fs)) ≡ cond b (kept_attribute e.0 (stays (tree_of e.1)) (attributes_of es)) (attribute e.0 (tree_of e.1) rest)
change_first true true same stays w v kept e es fs found rest here later =
    let first : e.1 ≡ v = cc in
    ap (λ o. kept_attribute e.0 o (attributes_of es)) (kept ∙ ap (λ x. stays (tree_of x)) (sym first))
change_first true false same stays w v kept e es fs found rest here later = cc
change_first false true same stays w v kept e es fs found rest here later = cc
change_first false false same stays w v kept e es fs found rest here later = ap (attribute e.0 (tree_of e.1)) (later here)

-- an attribute that is there takes what stays of its value
pub change-set_value : (name : List ℕ) (stays : Tree → Option Tree) (w v : Value) → Some (tree_of w) ≡ stays (tree_of v) → (es : List Entry) → lookup (is_at (name_cmp name)) es ≡ Some v
    → attributes_of (set_value (is_at (name_cmp name)) es w) ≡ change name stays (attributes_of es)
change-set_value name stays w v kept [] here = refl
change-set_value name stays w v kept (e ∷ es) here = change_first _ _ (is_eq-slice_cmp name e.0) stays w v kept e es _ _ _ here (change-set_value name stays w v kept es)

absent_first : (b : Bool) (stays : Tree → Option Tree) (name : List ℕ) (t : Tree) (rest : Attributes) (changed : Attributes) → (found : Option Tree) → cond b (Some t) found ≡ None → (found ≡ None → changed ≡ rest)
    → cond b (kept_attribute name (stays t) rest) (attribute name t changed) ≡ attribute name t rest
absent_first true stays name t rest changed found none later = cc
absent_first false stays name t rest changed found none later = ap (attribute name t) (later none)

-- where no attribute has the name, nothing changes
pub change-absent : (name : List ℕ) (stays : Tree → Option Tree) (inside : Attributes) → value_at name inside ≡ None → change name stays inside ≡ inside
change-absent name stays no_attributes none = refl
change-absent name stays (attribute other t rest) none = absent_first (bytes_eq name other) stays other t rest _ _ none (change-absent name stays rest)

some_is_none : {v : Value} → None ≡ Some v → ⊥
some_is_none e = cc

put_first : (o : Ordering) (name : List ℕ) (w : Value) (e : Entry) (es fs : List Entry) (rest : Attributes) → (o ≡ Less → ⊥) → (is_eq o ≡ false → attributes_of fs ≡ rest)
    → attributes_of (cond (is_eq o) ((e.0, w) ∷ es) (e ∷ fs)) ≡ match_ordering o (attribute name (tree_of w) (attribute e.0 (tree_of e.1) (attributes_of es))) (attribute e.0 (tree_of w) (attributes_of es)) (attribute e.0 (tree_of e.1) rest)
put_first Less name w e es fs rest not_below later = absurd (not_below refl)
put_first Equal name w e es fs rest not_below later = refl
put_first Greater name w e es fs rest not_below later = ap (attribute e.0 (tree_of e.1)) (later refl)

-- an attribute that is there takes a new value in its place
pub put-set_value : (name : List ℕ) (w v : Value) (es : List Entry) → IsStrictlySortedBy name_cmp (keys_of es) → lookup (is_at (name_cmp name)) es ≡ Some v
    → attributes_of (set_value (is_at (name_cmp name)) es w) ≡ put name (tree_of w) (attributes_of es)
put-set_value name w v [] up here = absurd (some_is_none here)
put-set_value name w v (e ∷ es) up here =
    put_first (name_cmp name e.0) name w e es _ _
    (λ below. some_is_none (sym (lookup-none (is_at (name_cmp name)) (e ∷ es) (none_below_head nat_list_cmp_total name e es up below)) ∙ here))
    (λ other. put-set_value name w v es (sorted_tail name_cmp e.0 (keys_of es) up) (subst (λ b. cond b (Some e.1) (lookup (is_at (name_cmp name)) es) ≡ Some v) other here))

-- an element that is taken out
pub change_at-remove : (vs : List Value) (place : ℕ) → place < length vs → trees_of (remove vs place) ≡ change_at place (without_in []) (trees_of vs)
change_at-remove [] place h = absurd (omega arith)
change_at-remove (v ∷ vs) zero h = refl
change_at-remove (v ∷ vs) (suc place) h = ap (tree.tree (tree_of v)) (change_at-remove vs place (omega arith))

-- an element that is there takes what stays of it
pub change_at-set : (place : ℕ) (stays : Tree → Option Tree) (w v : Value) → Some (tree_of w) ≡ stays (tree_of v) → (vs : List Value) → slice_get vs place ≡ Some v
    → trees_of (slice_set vs place w) ≡ change_at place stays (trees_of vs)
change_at-set place stays w v kept [] here = refl
change_at-set zero stays w v kept (u ∷ vs) here =
    let first : u ≡ v = cc in
    ap (λ o. kept_element o (trees_of vs)) (kept ∙ ap (λ x. stays (tree_of x)) (sym first))
change_at-set (suc place) stays w v kept (u ∷ vs) here = ap (tree.tree (tree_of u)) (change_at-set place stays w v kept vs here)

-- where the list has no such place, nothing changes
pub change_at-absent : (place : ℕ) (stays : Tree → Option Tree) (inside : Trees) → element_at place inside ≡ None → change_at place stays inside ≡ inside
change_at-absent place stays tree.no_trees none = refl
change_at-absent zero stays (tree.tree t rest) none = cc
change_at-absent (suc place) stays (tree.tree t rest) none = ap (tree.tree t) (change_at-absent place stays rest none)

-- an element that is replaced, and one that is appended
pub put_at-set : (place : ℕ) (w v : Value) (vs : List Value) → slice_get vs place ≡ Some v → trees_of (slice_set vs place w) ≡ put_at place (tree_of w) (trees_of vs)
put_at-set place w v [] here = cc
put_at-set zero w v (u ∷ vs) here = refl
put_at-set (suc place) w v (u ∷ vs) here = ap (tree.tree (tree_of u)) (put_at-set place w v vs here)

pub put_at-push : (place : ℕ) (w : Value) (vs : List Value) → slice_get vs place ≡ None → trees_of (vs ++ w ∷ []) ≡ put_at place (tree_of w) (trees_of vs)
put_at-push place w [] none = refl
put_at-push zero w (u ∷ vs) none = cc
put_at-push (suc place) w (u ∷ vs) none = ap (tree.tree (tree_of u)) (put_at-push place w vs none)

-- ---- the rest of a path

pub no_steps : (steps : List Step) → length steps ≡ 0 → steps ≡ []
no_steps [] e = refl
no_steps (step ∷ steps) e = absurd (omega arith)

-- what no further step finds is what is there
pub is_some_tree : (there : Option Tree) → is_some there ≡ is_some (option_and_then (found_in []) there)
is_some_tree None = refl
is_some_tree (Some t) = refl

pub is_some_here : (there : Option Value) → is_some there ≡ is_some (option_and_then (found_in []) (option_map tree_of there))
is_some_here None = refl
is_some_here (Some v) = refl

pub value_at_found : (name : List ℕ) (es : List Entry) (v : Option Value) → v ≡ lookup (is_at (name_cmp name)) es → value_at name (attributes_of es) ≡ option_map tree_of v
value_at_found name es v here = sym (value_at-lookup name es) ∙ ap (option_map tree_of) (sym here)

-- a value at the end of a list
pub appended-push : (w : Value) (vs : List Value) → trees_of (vs ++ w ∷ []) ≡ appended (trees_of vs) (tree_of w)
appended-push w [] = refl
appended-push w (v ∷ vs) = ap (tree.tree (tree_of v)) (appended-push w vs)

-- what has no value has no tree
pub no_values : (vs : List Value) → (vs ≡ []) ↔ (trees_of vs ≡ tree.no_trees)
no_values [] = (λ _. refl, λ _. refl)
no_values (v ∷ vs) = (λ none. cc, λ none. cc)

pub count-length : (vs : List Value) → count (trees_of vs) ≡ length vs
count-length [] = refl
count-length (v ∷ vs) = omega (arith, count-length vs)
