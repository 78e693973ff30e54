-- What is written past the end of a list that a path leads to.
use Rattle.std.proofs.Common.{◌≡◌, ℕ, zero, suc, ◌<◌, List, [], ◌∷◌, ◌++◌, slice_get, Option, Some, None}
use Rattle.std.proofs.Common.{option_and_then, option_map, Bool, true, false, ◌&&◌, refl, ap, ◌∙◌, subst, arith}
use Rattle.std.specs.List.{AllByRecursion}
use Rattle.base_types.specs.declared.path.Step.{Step}
use Rattle.base_types.specs.declared.path.Step.TheVariants.{Name, Index}
use Rattle.attr_value.specs.Paths.{child, element_at, found_in}
use Rattle.attr_value.specs.Sizes.{count}
use Rattle.attr_value.specs.Tree.{Tree, text, number, binary, boolean, null, list, map, text_set, number_set, binary_set}
use Rattle.attr_value.specs.Tree.{Trees, no_trees, tree, Attributes}
use Rattle.path_entries.specs.Entries.{below, is_name, is_place}
use Rattle.path_entries.specs.Order.{AreInOrder}
use Rattle.path_entries.specs.declared.key.Key.TheVariants as key
use Rattle.path_entries.proofs.Ranges.{order_below}
use Rattle.item_writes.specs.Apart.{same_step, overlap, AreApart, paths_of}
use Rattle.item_writes.specs.Edits.{inside, item_with_all}
use Rattle.item_writes.specs.NewTree.{Written}
use Rattle.item_writes.proofs.Extents.{apart_name, apart_place}
use Rattle.item_writes.proofs.Steps.{apart_at, leads_on}
use Rattle.item_writes.specs.ListsByPlace.{appended_place}
use Rattle.item_writes.specs.PathsThroughLists.{IsInOrder, HasItsPlaces, begins, NoneBegins, new_path, writes_behind}
use Rattle.item_writes.specs.PathsThroughLists.{AppendsAlongPaths}
use Rattle.item_writes.proofs.ListSteps.{rest_begins, missed_begins}
use Rattle.item_writes.proofs.Places.{values_are_appended}
use Rattle.item_writes.proofs.Paths.{makes_inner_writes}

-- ---- the writes behind a path

apart_behind : (path : List Step) (ws : List Written) → AreApart (paths_of ws) → AreApart (paths_of (writes_behind path ws))
apart_behind [] ws apart = apart
apart_behind (Name name ∷ path) ws apart = apart_behind path (below (is_name name) ws) (apart_name name ws apart)
apart_behind (Index place ∷ path) ws apart = apart_behind path (below (is_place place) ws) (apart_place place ws apart)

order_behind : (path : List Step) (ws : List Written) → AreInOrder ws → AreInOrder (writes_behind path ws)
order_behind [] ws up = up
order_behind (Name name ∷ path) ws up =
    order_behind path (below (is_name name) ws) (order_below (key.Name (record { ref_ptr = (0, 0); now = name })) ws up)
order_behind (Index place ∷ path) ws up = order_behind path (below (is_place place) ws) (order_below (key.Place place) ws up)

stands_behind : (path q : List Step) (v : Option Tree) (ws : List Written) (k : ℕ) → slice_get ws k ≡ Some (path ++ q, v)
    → (j : ℕ) × (slice_get (writes_behind path ws) j ≡ Some (q, v))
stands_behind [] q v ws k e = (k, e)
stands_behind (Name name ∷ path) q v ws k e =
    let on = leads_on (Name name) (path ++ q) v ws k e in stands_behind path q v (below (is_name name) ws) on.0 on.1
stands_behind (Index place ∷ path) q v ws k e =
    let on = leads_on (Index place) (path ++ q) v ws k e in stands_behind path q v (below (is_place place) ws) on.0 on.1

-- ---- no written path begins one that a written path goes on from

begins_less : (p q r : List Step) → begins p (q ++ r) ≡ false → begins p q ≡ false
begins_less [] q r e = e
begins_less (s ∷ p) [] r e = refl
begins_less (s ∷ p) (t ∷ q) r e = one (same_step s t) e (begins_less p q r)
  where
    one : (b : Bool) → (b && begins p (q ++ r)) ≡ false → (begins p (q ++ r) ≡ false → begins p q ≡ false)
        → (b && begins p q) ≡ false
    one true f later = later f
    one false f later = refl

and_false : (b c : Bool) → c ≡ false → (b && c) ≡ false
and_false true c e = e
and_false false c e = refl

longer : (path : List Step) (s : Step) (q : List Step) → begins (path ++ s ∷ q) path ≡ false
longer [] s q = refl
longer (t ∷ path) s q = and_false (same_step t t) (begins (path ++ s ∷ q) path) (longer path s q)

none_less : (path r : List Step) (ws : List Written) → NoneBegins (path ++ r) ws → NoneBegins path ws
none_less path r [] far = tt
none_less path r (w ∷ ws) far = (begins_less w.0 path r far.0, none_less path r ws far.1)

none_begins_front : (path : List Step) (s : Step) (q : List Step) (v : Option Tree) (ws : List Written) (k : ℕ)
    → AreApart (paths_of ws)
    → slice_get ws k ≡ Some (path ++ s ∷ q, v) → NoneBegins path ws
none_begins_front path s q v [] k apart e = tt
none_begins_front path s q v (w ∷ ws) zero apart e =
    let same : w ≡ (path ++ s ∷ q, v) = cc in
    let others : AllByRecursion (λ r. overlap (path ++ s ∷ q) r ≡ false) (paths_of ws) =
    subst (λ (x : Written). AllByRecursion (λ r. overlap x.0 r ≡ false) (paths_of ws)) same apart.0 in
    let first = ap (λ (x : Written). begins x.0 path) same ∙ longer path s q in
    (first, none_less path (s ∷ q) ws (rest_begins (path ++ s ∷ q) ws others))
none_begins_front path s q v (w ∷ ws) (suc k) apart e = (
  begins_less w.0 path (s ∷ q) (missed_begins w.0 (path ++ s ∷ q) (apart_at w.0 ws apart.0 k (path ++ s ∷ q, v) e)),
  none_begins_front path s q v ws k apart.1 e,
)

-- ---- what a path finds

found_further : (p q : List Step) (t : Tree) → found_in (p ++ q) t ≡ option_and_then (found_in q) (found_in p t)
found_further [] q t = refl
found_further (s ∷ p) q t = one (child s t) (found_further p q)
  where
    one : (o : Option Tree) → ((u : Tree) → found_in (p ++ q) u ≡ option_and_then (found_in q) (found_in p u))
        → option_and_then (found_in (p ++ q)) o ≡ option_and_then (found_in q) (option_and_then (found_in p) o)
    one None later = refl
    one (Some u) later = later u

element_within : (place : ℕ) (ts : Trees) (o : Option Tree) (u : Tree) (path : List Step) → element_at place ts ≡ o
    → option_and_then (found_in path) o ≡ Some u → place < count ts
element_within place no_trees None u path here e = cc
element_within place no_trees (Some t) u path here e = cc
element_within zero (tree t rest) o u path here e = omega arith
element_within (suc place) (tree t rest) o u path here e = omega (arith, element_within place rest o u path here e)

has_places : (path : List Step) (o : Option Tree) (u : Tree) → option_and_then (found_in path) o ≡ Some u → HasItsPlaces path o
has_places [] o u e = tt
has_places (Name name ∷ path) None u e = tt
has_places (Index place ∷ path) None u e = tt
has_places (Name name ∷ path) (Some t) u e = has_places path (child (Name name) t) u e
has_places (Index place ∷ path) (Some (list ts)) u e =
    (element_within place ts (element_at place ts) u path refl e, has_places path (element_at place ts) u e)
has_places (Index place ∷ path) (Some (map item)) u e = has_places path None u e
has_places (Index place ∷ path) (Some (text s)) u e = has_places path None u e
has_places (Index place ∷ path) (Some (number z)) u e = has_places path None u e
has_places (Index place ∷ path) (Some (binary s)) u e = has_places path None u e
has_places (Index place ∷ path) (Some (boolean b)) u e = has_places path None u e
has_places (Index place ∷ path) (Some null) u e = has_places path None u e
has_places (Index place ∷ path) (Some (text_set s)) u e = has_places path None u e
has_places (Index place ∷ path) (Some (number_set s)) u e = has_places path None u e
has_places (Index place ∷ path) (Some (binary_set s)) u e = has_places path None u e

pub appends_along_paths : (item : Attributes) (ws : List Written) → IsInOrder (map item) → AreInOrder ws → AreApart (paths_of ws)
    → AppendsAlongPaths item ws
appends_along_paths item ws up order apart [] elements place value k there past written = cc
appends_along_paths item ws up order apart (Index i ∷ path) elements place value k there past written = cc
appends_along_paths item ws up order apart (Name name ∷ path) elements place value k there past written =
    let whole = Name name ∷ path in
    let behind = writes_behind whole ws in
    let spot = appended_place elements place behind in
    let on = stands_behind whole (Index place ∷ []) (Some value) ws k written in
    found_further (new_path whole ws) (Index spot ∷ []) (map (item_with_all item ws))
    ∙ ap (option_and_then (found_in (Index spot ∷ [])))
    (makes_inner_writes item ws up apart whole (none_begins_front whole (Index place) [] (Some value) ws k apart written)
    (has_places whole (Some (map item)) (list elements) there)
    ∙ ap (option_map (λ t. inside t behind)) there)
    ∙ ap (option_and_then (found_in []))
    (values_are_appended elements behind (order_behind whole ws order) (apart_behind whole ws apart) place value on.0 past on.1)
