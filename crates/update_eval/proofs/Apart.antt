-- Of what an update writes no path begins another.
use Rattle.std.proofs.Common.{◌≡◌, ℕ, suc, List, [], ◌∷◌, ◌++◌, map, slice_get, Bool, true, false, cond, ◌&&◌, Option, Some, None, is_some, Ok, Err, refl, sym, ap, ◌∙◌, subst, arith, append-nil, append_assoc}
use Rattle.std.proofs.Math.Logic.{◌⊎◌, inl, inr}
use Rattle.std.specs.List.{AllByRecursion}
use Rattle.base_types.specs.declared.path.DocPath.{DocPath}
use Rattle.base_types.specs.declared.path.Step.{Step}
use Rattle.attr_value.specs.Tree.{Tree, Attributes}
use Rattle.attr_value.specs.Paths.{found}
use Rattle.attr_value.specs.declared.value.Value.{Value}
use Rattle.expr_words.specs.Trees.{SetTree}
use Rattle.expr_words.specs.declared.tree.PathValue.{PathValue}
use Rattle.expr_parse.specs.Overlaps.{Overlap, HaveOverlap}
use Rattle.expr_parse.specs.UpdateTree.{UpdateTree, written}
use Rattle.item_writes.specs.Apart.{same_step, overlap, AreApart, paths_of}
use Rattle.item_writes.specs.NewTree.{Written}
use Rattle.item_writes.proofs.Apart.{same_step_is, apart_without}
use Rattle.update_eval.specs.Answers.{Answer, after}
use Rattle.update_eval.specs.Terms.{given, there}
use Rattle.update_eval.specs.Sums.{sum_of}
use Rattle.update_eval.specs.Changes.{add_of, less_of}
use Rattle.update_eval.specs.Places.{has_place}
use Rattle.update_eval.specs.Actions.{placed_at, set_writes, remove_writes, add_writes, rest_writes, delete_writes, with_writes}
use Rattle.update_eval.specs.Updated.{writes_of}
use Rattle.update_eval.proofs.Touched.{grouped}
use Rattle.update_eval.specs.declared.fault.EvalFault.TheVariants.{BadPath}

-- ---- from the update's own word

abbrev Begin : List Step → List Step → Type 0
Begin p q = (more : List Step) × (p ++ more ≡ q)

longer : (s t : Step) (p q : List Step) → s ≡ t → Begin p q ⊎ Begin q p → Begin (s ∷ p) (t ∷ q) ⊎ Begin (t ∷ q) (s ∷ p)
longer s t p q e (inl (more, is)) = inl (more, (λ i. e i ∷ is i))
longer s t p q e (inr (more, is)) = inr (more, (λ i. (sym e) i ∷ is i))

overlap_on : (b : Bool) (s t : Step) (p q : List Step) → same_step s t ≡ b → (b && overlap p q) ≡ true → (overlap p q ≡ true → Begin p q ⊎ Begin q p)
    → Begin (s ∷ p) (t ∷ q) ⊎ Begin (t ∷ q) (s ∷ p)
overlap_on true s t p q e f later = longer s t p q (same_step_is s t e) (later f)
overlap_on false s t p q e f later = cc

one_begins : (p q : List Step) → overlap p q ≡ true → Begin p q ⊎ Begin q p
one_begins [] q e = inl (q, refl)
one_begins (s ∷ p) [] e = inr (s ∷ p, refl)
one_begins (s ∷ p) (t ∷ q) e = overlap_on (same_step s t) s t p q refl e (one_begins p q)

only_false : (b : Bool) → (b ≡ true → ⊥) → b ≡ false
only_false true never = absurd (never refl)
only_false false never = refl

abbrev pub steps_of : DocPath → List Step
steps_of p = p.steps

all_apart : (p : DocPath) (qs : List DocPath) → ((k : ℕ) (q : DocPath) → slice_get qs k ≡ Some q → Overlap p q → ⊥) → AllByRecursion (λ x. overlap p.steps x ≡ false) (map steps_of qs)
all_apart p [] h = tt
all_apart p (q ∷ qs) h = (only_false (overlap p.steps q.steps) (λ t. h 0 q refl (one_begins p.steps q.steps t)), all_apart p qs (λ k r there. h (suc k) r there))

apart_from : (paths : List DocPath) → (HaveOverlap paths → ⊥) → AreApart (map steps_of paths)
apart_from [] never = tt
apart_from (p ∷ ps) never = (
  all_apart p ps (λ k q there o. never (record { i = 0; j = suc k; p = p; q = q; apart = omega arith; first = refl; second = there; overlap = o })),
  apart_from ps (λ h. let less = h.apart in never (record { i = suc h.i; j = suc h.j; p = h.p; q = h.q; apart = omega (arith, less); first = h.first; second = h.second; overlap = h.overlap })),
)

-- ---- what one action writes

-- nothing, or something at the path
abbrev IsAt : List Step → List Written → Type 0
IsAt p [] = Unit {0}
IsAt p (w ∷ []) = w.0 ≡ p
IsAt p (w ∷ v ∷ ws) = ⊥

after_ok : {A B : Type 0} (a : Answer A) (next : A → Answer B) (b : B) → after a next ≡ Ok b → (x : A) × ((a ≡ Ok x) × (next x ≡ Ok b))
after_ok (Ok x) next b e = (x, (refl, e))
after_ok (Err fault) next b e = cc

ok_is : {A : Type 0} (x y : A) → ◌≡◌ {A = Answer A} (Ok x) (Ok y) → x ≡ y
ok_is x y e = cc

at_where : (b : Bool) (steps : List Step) (value : Tree) (ws : List Written) → cond b (Ok ((steps, Some value) ∷ [])) (Err BadPath) ≡ Ok ws → IsAt steps ws
at_where true steps value ws e = subst (IsAt steps) (ok_is ((steps, Some value) ∷ []) ws e) refl
at_where false steps value ws e = cc

at_place : (steps : List Step) (old : Attributes) (value : Tree) (ws : List Written) → placed_at steps old value ≡ Ok ws → IsAt steps ws
at_place steps old value ws e = at_where (has_place steps old) steps value ws e

set_at : (values : List Value) (old : Attributes) (set : SetTree) (ws : List Written) → set_writes values old set ≡ Ok ws → IsAt set.path.steps ws
set_at values old set ws e =
    let made = after_ok (sum_of values old set.sum) (placed_at set.path.steps old) ws e in
    at_place set.path.steps old made.0 ws made.1.1

removed_where : (b : Bool) (steps : List Step) → IsAt steps (cond b ((steps, None) ∷ []) [])
removed_where true steps = refl
removed_where false steps = tt

remove_at : (old : Attributes) (path : DocPath) (ws : List Written) → remove_writes old path ≡ Ok ws → IsAt path.steps ws
remove_at old path ws e = subst (IsAt path.steps) (ok_is (cond (is_some (found path.steps old)) ((path.steps, None) ∷ []) []) ws e) (removed_where (is_some (found path.steps old)) path.steps)

add_at : (values : List Value) (old : Attributes) (add : PathValue) (ws : List Written) → add_writes values old add ≡ Ok ws → IsAt add.path.steps ws
add_at values old add ws e =
    let value = after_ok (there (given values add.value)) (λ v. after (add_of (found add.path.steps old) v) (placed_at add.path.steps old)) ws e in
    let made = after_ok (add_of (found add.path.steps old) value.0) (placed_at add.path.steps old) ws value.1.1 in
    at_place add.path.steps old made.0 ws made.1.1

rest_at : (steps : List Step) (o : Option Tree) (value : Answer Tree) (ws : List Written) → rest_writes steps o value ≡ Ok ws → IsAt steps ws
rest_at steps None value ws e = subst (IsAt steps) (ok_is [] ws e) tt
rest_at steps (Some t) value ws e =
    let given_one = after_ok value (λ v. after (less_of t v) (λ rest. Ok ((steps, rest) ∷ []))) ws e in
    let rest = after_ok (less_of t given_one.0) (λ r. Ok ((steps, r) ∷ [])) ws given_one.1.1 in
    subst (IsAt steps) (ok_is ((steps, rest.0) ∷ []) ws rest.1.1) refl

delete_at : (values : List Value) (old : Attributes) (delete : PathValue) (ws : List Written) → delete_writes values old delete ≡ Ok ws → IsAt delete.path.steps ws
delete_at values old delete ws e = rest_at delete.path.steps (found delete.path.steps old) (there (given values delete.value)) ws e

-- ---- what all write

mapped_append : {X Y : Type 0} (f : X → Y) (xs ys : List X) → map f (xs ++ ys) ≡ map f xs ++ map f ys
mapped_append f [] ys = refl
mapped_append f (x ∷ xs) ys = ap (λ zs. f x ∷ zs) (mapped_append f xs ys)

with_one : (p : List Step) (ws new : List Written) (rest : List (List Step)) → IsAt p new → AreApart (paths_of ws ++ p ∷ rest) → AreApart (paths_of (ws ++ new) ++ rest)
with_one p ws [] rest is apart = subst (λ vs. AreApart (paths_of vs ++ rest)) (sym (append-nil ws)) (apart_without (paths_of ws) p rest apart)
with_one p ws (w ∷ []) rest is apart =
    subst (λ ps. AreApart (ps ++ rest)) (sym (mapped_append (λ (v : Written). v.0) ws (w ∷ [])))
    (subst AreApart (sym (append_assoc (paths_of ws) (w.0 ∷ []) rest)) (subst (λ q. AreApart (paths_of ws ++ q ∷ rest)) (sym is) apart))
with_one p ws (w ∷ v ∷ new) rest is apart = absurd is

with_next : {A : Type 0} (a : Answer (List Written)) (p : List Step) (ws last : List Written) (rest : List (List Step)) (next : List Written → Answer (List Written))
    → ((new : List Written) → a ≡ Ok new → IsAt p new) → after a (λ new. next (ws ++ new)) ≡ Ok last → AreApart (paths_of ws ++ p ∷ rest)
    → ((vs : List Written) → next vs ≡ Ok last → AreApart (paths_of vs ++ rest) → A) → A
with_next (Ok new) p ws last rest next is e apart later = later (ws ++ new) e (with_one p ws new rest (is new refl) apart)
with_next (Err fault) p ws last rest next is e apart later = cc

apart_with : {A : Type 0} (one : A → Answer (List Written)) (path : A → List Step) → ((a : A) (new : List Written) → one a ≡ Ok new → IsAt (path a) new)
    → (actions : List A) (ws last : List Written) (rest : List (List Step)) → with_writes one actions ws ≡ Ok last → AreApart (paths_of ws ++ (map path actions ++ rest)) → AreApart (paths_of last ++ rest)
apart_with one path is [] ws last rest e apart = subst (λ vs. AreApart (paths_of vs ++ rest)) (ok_is ws last e) apart
apart_with one path is (a ∷ actions) ws last rest e apart =
    with_next (one a) (path a) ws last (map path actions ++ rest) (with_writes one actions) (is a) e apart (λ vs f g. apart_with one path is actions vs last rest f g)

abbrev set_steps : SetTree → List Step
set_steps set = set.path.steps

abbrev pair_steps : PathValue → List Step
pair_steps pair = pair.path.steps

mapped_twice : {X : Type 0} (f : X → DocPath) (xs : List X) → map steps_of (map f xs) ≡ map (λ x. steps_of (f x)) xs
mapped_twice f [] = refl
mapped_twice f (x ∷ xs) = ap (λ zs. steps_of (f x) ∷ zs) (mapped_twice f xs)

all_paths : (u : UpdateTree) → map steps_of (written u) ≡ map set_steps u.sets ++ (map steps_of u.removes ++ (map pair_steps u.adds ++ (map pair_steps u.deletes ++ [])))
all_paths u =
    ap (map steps_of) (grouped (map (λ x. x.path) u.sets) u.removes (map (λ x. x.path) u.adds) (map (λ x. x.path) u.deletes))
    ∙ mapped_append steps_of (map (λ x. x.path) u.sets) (u.removes ++ (map (λ x. x.path) u.adds ++ map (λ x. x.path) u.deletes))
    ∙ ap (λ ps. ps ++ map steps_of (u.removes ++ (map (λ x. x.path) u.adds ++ map (λ x. x.path) u.deletes))) (mapped_twice (λ (x : SetTree). x.path) u.sets)
    ∙ ap (λ ps. map set_steps u.sets ++ ps)
    (mapped_append steps_of u.removes (map (λ x. x.path) u.adds ++ map (λ x. x.path) u.deletes)
    ∙ ap (λ ps. map steps_of u.removes ++ ps)
    (mapped_append steps_of (map (λ x. x.path) u.adds) (map (λ x. x.path) u.deletes)
    ∙ (λ i. mapped_twice (λ (x : PathValue). x.path) u.adds i ++ (mapped_twice (λ (x : PathValue). x.path) u.deletes ∙ sym (append-nil (map pair_steps u.deletes))) i)))

pub writes_apart : (values : List Value) (old : Attributes) (u : UpdateTree) (ws : List Written) → (HaveOverlap (written u) → ⊥) → writes_of values old u ≡ Ok ws → AreApart (paths_of ws)
writes_apart values old u ws never e =
    let start : AreApart (map set_steps u.sets ++ (map steps_of u.removes ++ (map pair_steps u.adds ++ (map pair_steps u.deletes ++ [])))) = subst AreApart (all_paths u) (apart_from (written u) never) in
    let sets = after_ok (with_writes (set_writes values old) u.sets []) _ ws e in
    let removes = after_ok (with_writes (remove_writes old) u.removes sets.0) _ ws sets.1.1 in
    let adds = after_ok (with_writes (add_writes values old) u.adds removes.0) _ ws removes.1.1 in
    let first = apart_with (set_writes values old) set_steps (set_at values old) u.sets [] sets.0 _ sets.1.0 start in
    let second = apart_with (remove_writes old) steps_of (remove_at old) u.removes sets.0 removes.0 _ removes.1.0 first in
    let third = apart_with (add_writes values old) pair_steps (add_at values old) u.adds removes.0 adds.0 _ adds.1.0 second in
    let fourth = apart_with (delete_writes values old) pair_steps (delete_at values old) u.deletes adds.0 ws [] adds.1.1 third in
    subst AreApart (append-nil (paths_of ws)) fourth
