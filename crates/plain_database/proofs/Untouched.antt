-- An attribute that an update does not touch stays as it is.
use Rattle.std.proofs.Common.{◌≡◌, ℕ, List, [], ◌∷◌, ◌++◌, map, Bool, true, false, cond, bytes_eq, ◌||◌, Option, Some, None, is_some, Ok, Err, refl, sym, ap, ◌∙◌, subst}
use Rattle.std.proofs.lemmas.Slice.Eq.{bytes_eq-Decides}
use Rattle.std.specs.List.{AllByRecursion, list_any}
use Rattle.std.specs.Ordering.{match_ordering}
use Rattle.std.specs.declared.cmp.Ordering.{Ordering}
use Rattle.std.specs.declared.cmp.Ordering.TheVariants.{Less, Equal, Greater}
use Rattle.base_types.specs.declared.path.DocPath.{DocPath}
use Rattle.base_types.specs.declared.path.Step.{Step}
use Rattle.base_types.specs.declared.path.Step.TheVariants.{Name, Index}
use Rattle.attr_value.specs.Tree.{Tree, Attributes, no_attributes, attribute}
use Rattle.attr_value.specs.Paths.{found, kept_attribute, value_at}
use Rattle.attr_value.specs.declared.value.Value.{Value}
use Rattle.expr_words.specs.Trees.{SetTree}
use Rattle.expr_words.specs.declared.tree.PathValue.{PathValue}
use Rattle.expr_parse.specs.UpdateTree.{UpdateTree}
use Rattle.path_entries.specs.Entries.{below, is_name, or_rest}
use Rattle.item_writes.specs.NewTree.{Written}
use Rattle.item_writes.specs.Edits.{staying, inside, kept_attributes, put_one, put_all, item_with_all}
use Rattle.item_writes.specs.Union.{put_in, in_order}
use Rattle.item_writes.proofs.ByName.{put_found}
use Rattle.update_eval.specs.Answers.{Answer, after}
use Rattle.update_eval.specs.Terms.{given, there}
use Rattle.update_eval.specs.Sums.{sum_of}
use Rattle.update_eval.specs.Changes.{add_of, less_of}
use Rattle.update_eval.specs.Places.{has_place, is_first, begins_with, touches}
use Rattle.update_eval.specs.Actions.{placed_at, set_writes, remove_writes, add_writes, rest_writes, delete_writes, with_writes}
use Rattle.update_eval.specs.Updated.{writes_of, write_order, by_path, within, updated}
use Rattle.update_eval.specs.declared.fault.EvalFault.TheVariants.{BadPath, TooDeep, ItemTooLarge}
use Rattle.update_eval.proofs.Touched.{by_kind}

-- no write's path begins with the name
abbrev Spares : List ℕ → List Written → Type 0
Spares name ws = AllByRecursion (λ w. is_first name w.0 ≡ false) ws

-- ---- what is written

after_ok : {A B : Type 0} (a : Answer A) (next : A → Answer B) (b : B) → after a next ≡ Ok b → (x : A) × ((a ≡ Ok x) × (next x ≡ Ok b))
after_ok (Ok x) next b e = (x, (refl, e))
after_ok (Err fault) next b e = cc

ok_is : {A : Type 0} (x y : A) → ◌≡◌ {A = Answer A} (Ok x) (Ok y) → x ≡ y
ok_is x y e = cc

neither : (a b : Bool) → (a || b) ≡ false → (a ≡ false) × (b ≡ false)
neither true b e = cc
neither false b e = (refl, e)

both_spare : (name : List ℕ) (xs ys : List Written) → Spares name xs → Spares name ys → Spares name (xs ++ ys)
both_spare name [] ys p q = q
both_spare name (x ∷ xs) ys p q = (p.0, both_spare name xs ys p.1 q)

where_spares : (b : Bool) (name : List ℕ) (steps : List Step) (value : Tree) (ws : List Written) → is_first name steps ≡ false
    → cond b (Ok ((steps, Some value) ∷ [])) (Err BadPath) ≡ Ok ws → Spares name ws
where_spares true name steps value ws h e = subst (Spares name) (ok_is ((steps, Some value) ∷ []) ws e) (h, tt)
where_spares false name steps value ws h e = cc

placed_spares : (name : List ℕ) (steps : List Step) (old : Attributes) (value : Tree) (ws : List Written) → is_first name steps ≡ false
    → placed_at steps old value ≡ Ok ws → Spares name ws
placed_spares name steps old value ws h e = where_spares (has_place steps old) name steps value ws h e

set_spares : (name : List ℕ) (values : List Value) (old : Attributes) (set : SetTree) (ws : List Written) → begins_with name set.path ≡ false
    → set_writes values old set ≡ Ok ws → Spares name ws
set_spares name values old set ws h e =
    let made = after_ok (sum_of values old set.sum) (placed_at set.path.steps old) ws e in
    placed_spares name set.path.steps old made.0 ws h made.1.1

removed_spares : (b : Bool) (name : List ℕ) (steps : List Step) → is_first name steps ≡ false → Spares name (cond b ((steps, None) ∷ []) [])
removed_spares true name steps h = (h, tt)
removed_spares false name steps h = tt

remove_spares : (name : List ℕ) (old : Attributes) (path : DocPath) (ws : List Written) → begins_with name path ≡ false
    → remove_writes old path ≡ Ok ws → Spares name ws
remove_spares name old path ws h e =
    subst (Spares name) (ok_is (cond (is_some (found path.steps old)) ((path.steps, None) ∷ []) []) ws e)
    (removed_spares (is_some (found path.steps old)) name path.steps h)

add_spares : (name : List ℕ) (values : List Value) (old : Attributes) (add : PathValue) (ws : List Written) → begins_with name add.path ≡ false
    → add_writes values old add ≡ Ok ws → Spares name ws
add_spares name values old add ws h e =
    let value = after_ok (there (given values add.value)) (λ v. after (add_of (found add.path.steps old) v) (placed_at add.path.steps old)) ws e in
    let made = after_ok (add_of (found add.path.steps old) value.0) (placed_at add.path.steps old) ws value.1.1 in
    placed_spares name add.path.steps old made.0 ws h made.1.1

rest_spares : (name : List ℕ) (steps : List Step) (o : Option Tree) (value : Answer Tree) (ws : List Written) → is_first name steps ≡ false
    → rest_writes steps o value ≡ Ok ws → Spares name ws
rest_spares name steps None value ws h e = subst (Spares name) (ok_is [] ws e) tt
rest_spares name steps (Some t) value ws h e =
    let one = after_ok value (λ v. after (less_of t v) (λ rest. Ok ((steps, rest) ∷ []))) ws e in
    let rest = after_ok (less_of t one.0) (λ r. Ok ((steps, r) ∷ [])) ws one.1.1 in
    subst (Spares name) (ok_is ((steps, rest.0) ∷ []) ws rest.1.1) (h, tt)

delete_spares : (name : List ℕ) (values : List Value) (old : Attributes) (delete : PathValue) (ws : List Written) → begins_with name delete.path ≡ false
    → delete_writes values old delete ≡ Ok ws → Spares name ws
delete_spares name values old delete ws h e =
    rest_spares name delete.path.steps (found delete.path.steps old) (there (given values delete.value)) ws h e

-- all actions of a kind
with_spares : {A : Type 0} (name : List ℕ) (one : A → Answer (List Written)) (path : A → DocPath)
    → ((a : A) (new : List Written) → begins_with name (path a) ≡ false → one a ≡ Ok new → Spares name new)
    → (actions : List A) (ws last : List Written) → list_any (begins_with name) (map path actions) ≡ false
    → with_writes one actions ws ≡ Ok last → Spares name ws → Spares name last
with_spares name one path each [] ws last h e spared = subst (Spares name) (ok_is ws last e) spared
with_spares name one path each (a ∷ actions) ws last h e spared =
    let not_one = neither (begins_with name (path a)) (list_any (begins_with name) (map path actions)) h in
    let made = after_ok (one a) (λ new. with_writes one actions (ws ++ new)) last e in
    with_spares name one path each actions (ws ++ made.0) last not_one.1 made.1.1
    (both_spare name ws made.0 spared (each a made.0 not_one.0 made.1.0))

same_paths : (xs : List DocPath) → map (λ (x : DocPath). x) xs ≡ xs
same_paths [] = refl
same_paths (x ∷ xs) = ap (λ ys. x ∷ ys) (same_paths xs)

writes_spare : (name : List ℕ) (values : List Value) (old : Attributes) (u : UpdateTree) (ws : List Written) → touches u name ≡ false
    → writes_of values old u ≡ Ok ws → Spares name ws
writes_spare name values old u ws h e =
    let by = sym (by_kind u name) ∙ h in
    let one = neither (list_any (begins_with name) (map (λ x. x.path) u.sets)) _ by in
    let two = neither (list_any (begins_with name) u.removes) _ one.1 in
    let three = neither (list_any (begins_with name) (map (λ x. x.path) u.adds)) _ two.1 in
    let removes_not : list_any (begins_with name) (map (λ (x : DocPath). x) u.removes) ≡ false = ap (list_any (begins_with name)) (same_paths u.removes) ∙ two.0 in
    let sets = after_ok (with_writes (set_writes values old) u.sets []) _ ws e in
    let removes = after_ok (with_writes (remove_writes old) u.removes sets.0) _ ws sets.1.1 in
    let adds = after_ok (with_writes (add_writes values old) u.adds removes.0) _ ws removes.1.1 in
    let first = with_spares name (set_writes values old) (λ (x : SetTree). x.path) (set_spares name values old) u.sets [] sets.0 one.0 sets.1.0 tt in
    let second = with_spares name (remove_writes old) (λ (x : DocPath). x) (remove_spares name old) u.removes sets.0 removes.0 removes_not removes.1.0 first in
    let third = with_spares name (add_writes values old) (λ (x : PathValue). x.path) (add_spares name values old) u.adds removes.0 adds.0 three.0 adds.1.0 second in
    with_spares name (delete_writes values old) (λ (x : PathValue). x.path) (delete_spares name values old) u.deletes adds.0 ws three.1 adds.1.1 third

ordered_spares : (o : Ordering) (name : List ℕ) (x y : Written) (xs ys : List Written) → is_first name x.0 ≡ false → Spares name (y ∷ ys) → Spares name xs
    → Spares name (match_ordering o (x ∷ y ∷ ys) (y ∷ ys) (y ∷ xs))
ordered_spares Less name x y xs ys h p q = (h, p)
ordered_spares Equal name x y xs ys h p q = p
ordered_spares Greater name x y xs ys h p q = (p.0, q)

put_spares : (name : List ℕ) (x : Written) (ys : List Written) → is_first name x.0 ≡ false → Spares name ys → Spares name (put_in write_order x ys)
put_spares name x [] h p = (h, tt)
put_spares name x (y ∷ ys) h p = ordered_spares (write_order x y) name x y (put_in write_order x ys) ys h p (put_spares name x ys h p.1)

in_order_spares : (name : List ℕ) (ws : List Written) → Spares name ws → Spares name (by_path ws)
in_order_spares name [] p = tt
in_order_spares name (w ∷ ws) p = put_spares name w (in_order write_order ws) p.0 (in_order_spares name ws p.1)

-- ---- what stays

one_not_below : (b : Bool) (steps : List Step) (value : Option Tree) (rest : List Written) → b ≡ false → or_rest (cond b (Some (steps, value)) None) rest ≡ rest
one_not_below true steps value rest h = cc
one_not_below false steps value rest h = refl

none_below : (name : List ℕ) (ws : List Written) → Spares name ws → below (is_name name) ws ≡ []
none_below name [] p = refl
none_below name (([], v) ∷ ws) p = none_below name ws p.1
none_below name ((Name here ∷ steps, v) ∷ ws) p = one_not_below (bytes_eq here name) steps v (below (is_name name) ws) p.0 ∙ none_below name ws p.1
none_below name ((Index place ∷ steps, v) ∷ ws) p = none_below name ws p.1

kept_step : (b : Bool) (name other : List ℕ) (t : Tree) (ws : List Written) (rest after : Attributes) → bytes_eq name other ≡ b → below (is_name name) ws ≡ []
    → value_at name after ≡ value_at name rest
    → value_at name (kept_attribute other (staying (below (is_name other) ws) t (inside t (below (is_name other) ws))) after) ≡ cond b (Some t) (value_at name rest)
kept_step true name other t ws rest after e none same =
    let one : other ≡ name = sym ((bytes_eq-Decides name other).0 e) in
    let empty : below (is_name other) ws ≡ [] = ap (λ n. below (is_name n) ws) one ∙ none in
    rw (empty, e) refl
kept_step false name other t ws rest after e none same =
    go (staying (below (is_name other) ws) t (inside t (below (is_name other) ws)))
  where
    go : (o : Option Tree) → value_at name (kept_attribute other o after) ≡ value_at name rest
    go None = same
    go (Some u) = rw e same

kept_stays : (name : List ℕ) (ws : List Written) (item : Attributes) → below (is_name name) ws ≡ [] → value_at name (kept_attributes item ws) ≡ value_at name item
kept_stays name ws no_attributes none = refl
kept_stays name ws (attribute other t rest) none =
    kept_step (bytes_eq name other) name other t ws rest (kept_attributes rest ws) refl none (kept_stays name ws rest none)

same_either_way : (name here : List ℕ) → bytes_eq here name ≡ false → bytes_eq name here ≡ false
same_either_way name here h = go (bytes_eq name here) refl
  where
    go : (b : Bool) → bytes_eq name here ≡ b → b ≡ false
    go true e = let t : bytes_eq here name ≡ true = (bytes_eq-Decides here name).1 (sym ((bytes_eq-Decides name here).0 e)) in let f : true ≡ false = sym t ∙ h in cc
    go false e = refl

put_stays : (name : List ℕ) (steps : List Step) (v : Option Tree) (item : Attributes) → is_first name steps ≡ false → value_at name (put_one steps v item) ≡ value_at name item
put_stays name [] v item h = refl
put_stays name (Index place ∷ steps) v item h = refl
put_stays name (Name here ∷ []) None item h = refl
put_stays name (Name here ∷ []) (Some v) item h = put_found name here v item ∙ rw (same_either_way name here h) refl
put_stays name (Name here ∷ next ∷ steps) v item h = refl

put_all_stays : (name : List ℕ) (ws : List Written) (item : Attributes) → Spares name ws → value_at name (put_all ws item) ≡ value_at name item
put_all_stays name [] item p = refl
put_all_stays name (w ∷ ws) item p = put_all_stays name ws (put_one w.0 w.1 item) p.1 ∙ put_stays name w.0 w.1 item p.0

all_stays : (name : List ℕ) (ws : List Written) (item : Attributes) → Spares name ws → value_at name (item_with_all item ws) ≡ value_at name item
all_stays name ws item p = put_all_stays name ws (kept_attributes item ws) p ∙ kept_stays name ws item (none_below name ws p)

within_limits : (b c : Bool) (item new : Attributes) → cond b (Err TooDeep) (cond c (Err ItemTooLarge) (Ok item)) ≡ Ok new → item ≡ new
within_limits true c item new e = cc
within_limits false true item new e = cc
within_limits false false item new e = ok_is item new e

-- where an update does not touch a name, the item has there what it had
pub untouched : (name : List ℕ) (values : List Value) (old new : Attributes) (u : UpdateTree) → touches u name ≡ false
    → updated values old u ≡ Ok new → value_at name new ≡ value_at name old
untouched name values old new u h e =
    let made = after_ok (writes_of values old u) (λ ws. within (item_with_all old (by_path ws))) new e in
    let spared = in_order_spares name made.0 (writes_spare name values old u made.0 h made.1.0) in
    sym (ap (value_at name) (within_limits _ _ (item_with_all old (by_path made.0)) new made.1.1)) ∙ all_stays name (by_path made.0) old spared
