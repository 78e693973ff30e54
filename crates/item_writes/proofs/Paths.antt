-- At the end of a path of names and places stands what is written there, or what stood there where no written path meets it.
use Rattle.std.proofs.Common.{◌≡◌, ℕ, zero, suc, ◌<◌, List, [], ◌∷◌, slice_get, Option, Some, None, option_and_then}
use Rattle.std.proofs.Common.{option_map, Bool, true, false, cond, ◌&&◌, bytes_eq, refl, sym, ap, ◌∙◌, subst, arith}
use Rattle.std.proofs.lemmas.Slice.Eq.{bytes_eq-Decides}
use Rattle.std.specs.List.{AllByRecursion}
use Rattle.base_types.specs.declared.path.Step.{Step}
use Rattle.base_types.specs.declared.path.Step.TheVariants.{Name, Index}
use Rattle.attr_value.specs.Paths.{element_at, found, found_in, value_at}
use Rattle.attr_value.specs.Sizes.{count}
use Rattle.attr_value.specs.Tree.{Tree, text, number, binary, boolean, null, list, map, text_set, number_set, binary_set}
use Rattle.attr_value.specs.Tree.{Trees, no_trees, tree, Attributes, no_attributes, attribute}
use Rattle.path_entries.specs.Entries.{below, is_name, is_place}
use Rattle.item_writes.specs.Apart.{overlap, AreApart, paths_of}
use Rattle.item_writes.specs.Edits.{inside, item_with_all, kept}
use Rattle.item_writes.specs.Extents.{written_here}
use Rattle.item_writes.specs.NewTree.{Written}
use Rattle.item_writes.specs.ValuesByName.{put_or, last_put}
use Rattle.item_writes.proofs.ByName.{by_name}
use Rattle.item_writes.proofs.Extents.{apart_name, apart_place, element_inside, element_new, inside_none, kept_inside}
use Rattle.item_writes.proofs.Steps.{apart_at, goes_on, leads_on}
use Rattle.item_writes.specs.ListsByPlace.{new_place}
use Rattle.item_writes.specs.PathsThroughLists.{IsInOrder, AttributesAreInOrder, ElementsAreInOrder, MeetsNone, HasItsPlaces}
use Rattle.item_writes.specs.PathsThroughLists.{KeepsPlaces, new_path, begins, NoneBegins, writes_behind, MakesInnerWrites}
use Rattle.item_writes.specs.PathsThroughLists.{MovesOtherPaths, KeepsOtherPaths, HasPlace, PutsMoved, PutsWritten}
use Rattle.item_writes.proofs.Counts.{kept_of, kept_is, all_kept}
use Rattle.item_writes.proofs.Places.{stays_at, stays_open, stays_new}
use Rattle.item_writes.proofs.ListSteps.{rest_begins, missed_begins, misses_begins, none_begins_below, nothing_behind}
use Rattle.item_writes.proofs.ListSteps.{not_here, ends_here}

-- ---- the path to the elements that stay, which is the new one

abbrev kept_path : List Step → List Written → List Step
kept_path [] ws = []
kept_path (Name name ∷ path) ws = Name name ∷ kept_path path (below (is_name name) ws)
kept_path (Index place ∷ path) ws = Index (kept_of place 0 ws) ∷ kept_path path (below (is_place place) ws)

path_is : (path : List Step) (ws : List Written) → AreApart (paths_of ws) → kept_path path ws ≡ new_path path ws
path_is [] ws apart = refl
path_is (Name name ∷ path) ws apart = ap (λ p. Name name ∷ p) (path_is path (below (is_name name) ws) (apart_name name ws apart))
path_is (Index place ∷ path) ws apart =
    ap (λ n. Index n ∷ kept_path path (below (is_place place) ws)) (kept_is ws place apart)
    ∙ ap (λ p. Index (new_place place ws) ∷ p) (path_is path (below (is_place place) ws) (apart_place place ws apart))

path_stays : (path : List Step) (ws : List Written) → KeepsPlaces path ws → kept_path path ws ≡ path
path_stays [] ws keeps = refl
path_stays (Name name ∷ path) ws keeps = ap (λ p. Name name ∷ p) (path_stays path (below (is_name name) ws) keeps)
path_stays (Index place ∷ path) ws keeps =
    ap (λ n. Index n ∷ kept_path path (below (is_place place) ws)) (all_kept ws place keeps.0)
    ∙ ap (λ p. Index place ∷ p) (path_stays path (below (is_place place) ws) keeps.1)

-- ---- no write puts a value at the first name

not_named : (name here : List ℕ) (b : Bool) → bytes_eq name here ≡ b → (b && true) ≡ false → bytes_eq name here ≡ false
not_named name here true e f = cc
not_named name here false e f = e

put_elsewhere : (name : List ℕ) (q steps : List Step) (v before : Option Tree) → begins steps (Name name ∷ q) ≡ false
    → put_or name steps v before ≡ before
put_elsewhere name q [] v before e = cc
put_elsewhere name q (Index place ∷ steps) v before e = refl
put_elsewhere name q (Name here ∷ next ∷ steps) v before e = refl
put_elsewhere name q (Name here ∷ []) None before e = refl
put_elsewhere name q (Name here ∷ []) (Some v) before e = rw (not_named name here (bytes_eq name here) refl e) refl

none_put : (name : List ℕ) (q : List Step) (ws : List Written) (before : Option Tree) → NoneBegins (Name name ∷ q) ws
    → last_put name ws before ≡ before
none_put name q [] before far = refl
none_put name q (w ∷ ws) before far =
    ap (last_put name ws) (put_elsewhere name q w.0 w.1 before far.0) ∙ none_put name q ws before far.1

-- ---- what stands at a step

same_tree : (x y : Tree) → ◌≡◌ {A = Option Tree} (Some x) (Some y) → x ≡ y
same_tree x y f = cc

in_order_at : (name : List ℕ) (item : Attributes) (t : Tree) → AttributesAreInOrder item → value_at name item ≡ Some t
    → IsInOrder t
in_order_at name no_attributes t all e = cc
in_order_at name (attribute other u rest) t all e = one (bytes_eq name other) e (in_order_at name rest t all.1)
  where
    one : (b : Bool) → cond b (Some u) (value_at name rest) ≡ Some t → (value_at name rest ≡ Some t → IsInOrder t) → IsInOrder t
    one true f later = subst IsInOrder (same_tree u t f) all.0
    one false f later = later f

element_in_order : (place : ℕ) (ts : Trees) (t : Tree) → ElementsAreInOrder ts → element_at place ts ≡ Some t → IsInOrder t
element_in_order place no_trees t all e = cc
element_in_order zero (tree u rest) t all e = subst IsInOrder (same_tree u t e) all.0
element_in_order (suc place) (tree u rest) t all e = element_in_order place rest t all.1 e

has_element : (place : ℕ) (ts : Trees) → place < count ts → (t : Tree) × (element_at place ts ≡ Some t)
has_element place no_trees within = absurd (omega (arith, within))
has_element zero (tree t rest) within = (t, refl)
has_element (suc place) (tree t rest) within = has_element place rest (omega (arith, within))

-- ---- a path that no written path begins

-- what stays of an attribute's value
stays : (q r : List Step) (ws behind : List Written) (o : Option Tree) → NoneBegins q ws
    → ((t : Tree) → o ≡ Some t → found_in r (inside t ws) ≡ option_map (λ u. inside u behind) (found_in q t))
    → option_and_then (found_in r) (option_and_then (λ t. kept t ws) o)
    ≡ option_map (λ u. inside u behind) (option_and_then (found_in q) o)
stays q r ws behind None far same = refl
stays q r ws behind (Some t) far same = ap (option_and_then (found_in r)) (kept_inside t ws (not_here q ws far)) ∙ same t refl

reaches : (path : List Step) (t : Tree) (ws : List Written) → IsInOrder t → NoneBegins path ws → HasItsPlaces path (Some t)
    → found_in (kept_path path ws) (inside t ws) ≡ option_map (λ u. inside u (writes_behind path ws)) (found_in path t)
reaches [] t ws up far has = refl
reaches (Name name ∷ path) (map item) ws up far has =
    let deeper = below (is_name name) ws in
    let there = option_and_then (λ t. kept t deeper) (value_at name item) in
    let on : NoneBegins path deeper = none_begins_below (Name name) path ws far in
    ap (option_and_then (found_in (kept_path path deeper))) (by_name item ws up.0 name ∙ none_put name path ws there far)
    ∙ stays path (kept_path path deeper) deeper (writes_behind path deeper) (value_at name item) on
    (λ t e. reaches path t deeper (in_order_at name item t up.1 e) on (subst (HasItsPlaces path) e has))
reaches (Name name ∷ path) (list ts) ws up far has = refl
reaches (Name name ∷ path) (text s) ws up far has = refl
reaches (Name name ∷ path) (number z) ws up far has = refl
reaches (Name name ∷ path) (binary s) ws up far has = refl
reaches (Name name ∷ path) (boolean b) ws up far has = refl
reaches (Name name ∷ path) null ws up far has = refl
reaches (Name name ∷ path) (text_set s) ws up far has = refl
reaches (Name name ∷ path) (number_set s) ws up far has = refl
reaches (Name name ∷ path) (binary_set s) ws up far has = refl
reaches (Index place ∷ path) (list ts) ws up far has =
    let deeper = below (is_place place) ws in
    let there = has_element place ts has.0 in
    let on : NoneBegins path deeper = none_begins_below (Index place) path ws far in
    let open_ : written_here deeper ≡ None = not_here path deeper on in
    ap (option_and_then (found_in (kept_path path deeper)))
    (stays_at ts place 0 place ws there.0 (omega arith) there.1 (stays_open deeper open_) ∙ element_inside there.0 deeper open_)
    ∙ reaches path there.0 deeper (element_in_order place ts there.0 up there.1) on (subst (HasItsPlaces path) there.1 has.1)
    ∙ ap (λ o. option_map (λ u. inside u (writes_behind path deeper)) (option_and_then (found_in path) o)) (sym there.1)
reaches (Index place ∷ path) (map item) ws up far has = refl
reaches (Index place ∷ path) (text s) ws up far has = refl
reaches (Index place ∷ path) (number z) ws up far has = refl
reaches (Index place ∷ path) (binary s) ws up far has = refl
reaches (Index place ∷ path) (boolean b) ws up far has = refl
reaches (Index place ∷ path) null ws up far has = refl
reaches (Index place ∷ path) (text_set s) ws up far has = refl
reaches (Index place ∷ path) (number_set s) ws up far has = refl
reaches (Index place ∷ path) (binary_set s) ws up far has = refl

reaches_in_item : (item : Attributes) (ws : List Written) → IsInOrder (map item) → (path : List Step) → NoneBegins path ws
    → HasItsPlaces path (Some (map item))
    → found (kept_path path ws) (item_with_all item ws) ≡ option_map (λ t. inside t (writes_behind path ws)) (found path item)
reaches_in_item item ws up [] far has = refl
reaches_in_item item ws up (Name name ∷ path) far has = reaches (Name name ∷ path) (map item) ws up far has
reaches_in_item item ws up (Index place ∷ path) far has = refl

pub makes_inner_writes : (item : Attributes) (ws : List Written) → IsInOrder (map item) → AreApart (paths_of ws)
    → MakesInnerWrites item ws
makes_inner_writes item ws up apart path far has =
    ap (λ p. found p (item_with_all item ws)) (sym (path_is path ws apart)) ∙ reaches_in_item item ws up path far has

-- ---- a path that no written path meets

none_inside : (o : Option Tree) → option_map (λ t. inside t []) o ≡ o
none_inside None = refl
none_inside (Some t) = ap Some (inside_none t)

keeps_in_item : (item : Attributes) (ws : List Written) → IsInOrder (map item) → (path : List Step) → MeetsNone path ws
    → HasItsPlaces path (Some (map item))
    → found (kept_path path ws) (item_with_all item ws) ≡ found path item
keeps_in_item item ws up path far has =
    reaches_in_item item ws up path (misses_begins path ws far) has
    ∙ ap (λ vs. option_map (λ t. inside t vs) (found path item)) (nothing_behind path ws far)
    ∙ none_inside (found path item)

pub moves_other_paths : (item : Attributes) (ws : List Written) → IsInOrder (map item) → AreApart (paths_of ws)
    → MovesOtherPaths item ws
moves_other_paths item ws up apart path far has =
    ap (λ p. found p (item_with_all item ws)) (sym (path_is path ws apart)) ∙ keeps_in_item item ws up path far has

pub keeps_other_paths : (item : Attributes) (ws : List Written) → IsInOrder (map item) → KeepsOtherPaths item ws
keeps_other_paths item ws up path far has stay =
    ap (λ p. found p (item_with_all item ws)) (sym (path_stays path ws stay)) ∙ keeps_in_item item ws up path far has

-- ---- a written path

-- the only write to a name puts its value
put_here : (name : List ℕ) (v before : Option Tree) (x : Tree) → v ≡ Some x → put_or name (Name name ∷ []) v before ≡ Some x
put_here name None before x e = cc
put_here name (Some y) before x e = rw ((bytes_eq-Decides name name).1 refl) e

last_is : (name : List ℕ) (x : Tree) (ws : List Written) (before : Option Tree) → AreApart (paths_of ws) → (k : ℕ)
    → slice_get ws k ≡ Some (Name name ∷ [], Some x)
    → last_put name ws before ≡ Some x
last_is name x [] before apart k e = cc
last_is name x (w ∷ ws) before apart zero e =
    let same : w ≡ (Name name ∷ [], Some x) = cc in
    let far : NoneBegins (Name name ∷ []) ws =
    rest_begins (Name name ∷ []) ws (subst (λ v. AllByRecursion (λ q. overlap v.0 q ≡ false) (paths_of ws)) same apart.0) in
    none_put name [] ws (put_or name w.0 w.1 before) far ∙ ap (λ v. put_or name v.0 v.1 before) same
    ∙ put_here name (Some x) before x refl
last_is name x (w ∷ ws) before apart (suc k) e = last_is name x ws (put_or name w.0 w.1 before) apart.1 k e

-- where a written path leads on from a name, no write ends at the name
none_ends : (name : List ℕ) (s : Step) (q : List Step) (v : Option Tree) (ws : List Written) (before : Option Tree)
    → AreApart (paths_of ws) → (k : ℕ)
    → slice_get ws k ≡ Some (Name name ∷ s ∷ q, v) → last_put name ws before ≡ before
none_ends name s q v [] before apart k e = cc
none_ends name s q v (w ∷ ws) before apart zero e =
    let same : w ≡ (Name name ∷ s ∷ q, v) = cc in
    let far : NoneBegins (Name name ∷ s ∷ q) ws =
    rest_begins (Name name ∷ s ∷ q) ws (subst (λ x. AllByRecursion (λ r. overlap x.0 r ≡ false) (paths_of ws)) same apart.0) in
    none_put name (s ∷ q) ws (put_or name w.0 w.1 before) far ∙ ap (λ x. put_or name x.0 x.1 before) same
none_ends name s q v (w ∷ ws) before apart (suc k) e =
    let far = missed_begins w.0 (Name name ∷ s ∷ q) (apart_at w.0 ws apart.0 k (Name name ∷ s ∷ q, v) e) in
    none_ends name s q v ws (put_or name w.0 w.1 before) apart.1 k e ∙ put_elsewhere name (s ∷ q) w.0 w.1 before far

-- a path that goes on has something to go on from
there_is : (s : Step) (path : List Step) (o : Option Tree) → HasPlace (s ∷ path) o → (t : Tree) × (o ≡ Some t)
there_is (Name name) path (Some t) has = (t, refl)
there_is (Index place) path (Some t) has = (t, refl)
there_is (Name name) path None has = absurd has
there_is (Index place) path None has = absurd has

puts : (s : Step) (path : List Step) (t : Tree) (ws : List Written) (x : Tree) (k : ℕ) → IsInOrder t → AreApart (paths_of ws)
    → slice_get ws k ≡ Some (s ∷ path, Some x)
    → HasPlace (s ∷ path) (Some t) → found_in (kept_path (s ∷ path) ws) (inside t ws) ≡ Some x
puts (Name name) [] (map item) ws x k up apart e has =
    let there = option_and_then (λ t. kept t (below (is_name name) ws)) (value_at name item) in
    ap (option_and_then (found_in [])) (by_name item ws up.0 name ∙ last_is name x ws there apart k e)
puts (Name name) (next ∷ path) (map item) ws x k up apart e has =
    let deeper = below (is_name name) ws in
    let far = apart_name name ws apart in
    let on = leads_on (Name name) (next ∷ path) (Some x) ws k e in
    let there = there_is next path (value_at name item) has in
    let open_ : written_here deeper ≡ None = goes_on next path (Some x) deeper far on.0 on.1 in
    ap (option_and_then (found_in (kept_path (next ∷ path) deeper)))
    (by_name item ws up.0 name
    ∙ none_ends name next path (Some x) ws (option_and_then (λ t. kept t deeper) (value_at name item)) apart k e
    ∙ ap (option_and_then (λ t. kept t deeper)) there.1
    ∙ kept_inside there.0 deeper open_)
    ∙ puts next path there.0 deeper x on.0 (in_order_at name item there.0 up.1 there.1) far on.1
    (subst (HasPlace (next ∷ path)) there.1 has)
puts (Index place) [] (list ts) ws x k up apart e has =
    let deeper = below (is_place place) ws in
    let there = has_element place ts has.0 in
    let here : written_here deeper ≡ Some (Some x) = ends_here (Index place) (Some x) ws apart k e in
    ap (option_and_then (found_in []))
    (stays_at ts place 0 place ws there.0 (omega arith) there.1 (stays_new deeper x here)
    ∙ element_new there.0 deeper (Some x) here)
puts (Index place) (next ∷ path) (list ts) ws x k up apart e has =
    let deeper = below (is_place place) ws in
    let far = apart_place place ws apart in
    let on = leads_on (Index place) (next ∷ path) (Some x) ws k e in
    let there = has_element place ts has.0 in
    let open_ : written_here deeper ≡ None = goes_on next path (Some x) deeper far on.0 on.1 in
    ap (option_and_then (found_in (kept_path (next ∷ path) deeper)))
    (stays_at ts place 0 place ws there.0 (omega arith) there.1 (stays_open deeper open_) ∙ element_inside there.0 deeper open_)
    ∙ puts next path there.0 deeper x on.0 (element_in_order place ts there.0 up there.1) far on.1
    (subst (HasPlace (next ∷ path)) there.1 has.1)
puts (Name name) path (list ts) ws x k up apart e has = absurd has
puts (Name name) path (text s) ws x k up apart e has = absurd has
puts (Name name) path (number z) ws x k up apart e has = absurd has
puts (Name name) path (binary s) ws x k up apart e has = absurd has
puts (Name name) path (boolean b) ws x k up apart e has = absurd has
puts (Name name) path null ws x k up apart e has = absurd has
puts (Name name) path (text_set s) ws x k up apart e has = absurd has
puts (Name name) path (number_set s) ws x k up apart e has = absurd has
puts (Name name) path (binary_set s) ws x k up apart e has = absurd has
puts (Index place) path (map item) ws x k up apart e has = absurd has
puts (Index place) path (text s) ws x k up apart e has = absurd has
puts (Index place) path (number z) ws x k up apart e has = absurd has
puts (Index place) path (binary s) ws x k up apart e has = absurd has
puts (Index place) path (boolean b) ws x k up apart e has = absurd has
puts (Index place) path null ws x k up apart e has = absurd has
puts (Index place) path (text_set s) ws x k up apart e has = absurd has
puts (Index place) path (number_set s) ws x k up apart e has = absurd has
puts (Index place) path (binary_set s) ws x k up apart e has = absurd has

puts_in_item : (item : Attributes) (ws : List Written) → IsInOrder (map item) → AreApart (paths_of ws)
    → (step : Step) (path : List Step) (x : Tree) (k : ℕ)
    → slice_get ws k ≡ Some (step ∷ path, Some x) → HasPlace (step ∷ path) (Some (map item))
    → found (kept_path (step ∷ path) ws) (item_with_all item ws) ≡ Some x
puts_in_item item ws up apart (Name name) path x k e has = puts (Name name) path (map item) ws x k up apart e has
puts_in_item item ws up apart (Index place) path x k e has = absurd has

pub puts_moved : (item : Attributes) (ws : List Written) → IsInOrder (map item) → AreApart (paths_of ws) → PutsMoved item ws
puts_moved item ws up apart step path x k e has =
    ap (λ p. found p (item_with_all item ws)) (sym (path_is (step ∷ path) ws apart))
    ∙ puts_in_item item ws up apart step path x k e has

pub puts_written : (item : Attributes) (ws : List Written) → IsInOrder (map item) → AreApart (paths_of ws) → PutsWritten item ws
puts_written item ws up apart step path x k e has stay =
    ap (λ p. found p (item_with_all item ws)) (sym (path_stays (step ∷ path) ws stay))
    ∙ puts_in_item item ws up apart step path x k e has
