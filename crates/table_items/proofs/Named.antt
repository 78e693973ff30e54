-- The attributes that an update writes, found among its paths in order.
use Rattle.std.proofs.Common.{rules, ◌≡◌, ℕ, List, [], ◌∷◌, ◌++◌, map, length, Bool, true, false, not, cond, ◌||◌, refl, ap, sym, ◌∙◌}
use Rattle.std.specs.Prelude.{filter, ◌==◌}
use Rattle.std.proofs.lemmas.List.{map-append}
use Rattle.expr_words.specs.declared.tree.SetTo.{SetTo}
use Rattle.expr_words.specs.declared.tree.PathValue.{PathValue}
use Rattle.expr_words.specs.Trees.{set_tree}
use Rattle.std.specs.List.{list_any}
use Rattle.std.specs.List.Sorted.{IsPermutation}
use Rattle.std.proofs.lemmas.List.Sorted.{list_any-IsPermutation}
use Rattle.base_types.specs.declared.path.DocPath.{DocPath}
use Rattle.base_types.specs.declared.path.Step.{Step}
use Rattle.base_types.specs.declared.path.Step.TheVariants.{Name, Index}
use Rattle.attr_value.specs.Tree.{Attributes}
use Rattle.item_keys.specs.Row.{only}
use Rattle.path_entries.specs.declared.key.PathEntry.{PathEntry}
use Rattle.path_entries.specs.Entries.{begins, is_name}
use Rattle.expr_parse.specs.declared.tree.Update.{Update}
use Rattle.update_eval.specs.Places.{touches, begins_with, is_first}
use Rattle.expr_parse.specs.Update.{update_tree}
use Rattle.expr_parse.specs.UpdateTree.{UpdateTree, written}
use Rattle.table_items.specs.Touched.{steps_of, has_name}

-- some element passes a test where the test leaves one
left_step :
    {A : Type 0} (b : Bool) (x : A) (left : List A) (any : Bool) → not (length left == 0) ≡ any → not (length (cond b (x ∷ left) left) == 0) ≡ (b || any)
left_step true x left any rest = search rules
left_step false x left any rest = rest

pub some_left : {A : Type 0} (p : A → Bool) (xs : List A) → not (length (filter p xs) == 0) ≡ list_any p xs
some_left p [] = refl
some_left p (x ∷ xs) = left_step (p x) x (filter p xs) (list_any p xs) (some_left p xs)

-- steps begin with a name as their path does
begins_is : (name : List ℕ) (steps : List Step) → begins (is_name name) steps ≡ is_first name steps
begins_is name [] = refl
begins_is name (Name first ∷ steps) = refl
begins_is name (Index place ∷ steps) = refl

-- the names with which some entry begins are those with which some path does
pub named_alike :
    (name : List ℕ) (entries : List (PathEntry (Unit {0}))) (paths : List DocPath) → steps_of entries ≡ map (λ path. path.steps) paths
    → has_name entries name ≡ list_any (begins_with name) paths
named_alike name [] [] is = refl
named_alike name [] (path ∷ paths) is = absurd (cc)
named_alike name (entry ∷ entries) [] is = absurd (cc)
named_alike name (entry ∷ entries) (path ∷ paths) is =
    let head : entry.steps.now ≡ path.steps = cc in
    let tail : steps_of entries ≡ map (λ path. path.steps) paths = cc in
    let first = begins_is name entry.steps.now ∙ ap (is_first name) head in
    let others = named_alike name entries paths tail in
    λ i. first i || others i

-- the attributes are the same
pub only_alike :
    (entries ordered : List (PathEntry (Unit {0}))) (u : UpdateTree) (item : Attributes) → steps_of entries ≡ map (λ path. path.steps) (written u)
    → IsPermutation entries ordered → only (has_name ordered) item ≡ only (touches u) item
only_alike entries ordered u item is moved =
    let same : (name : List ℕ) → has_name ordered name ≡ touches u name =
    λ name. sym (list_any-IsPermutation (λ e. begins (is_name name) e.steps.now) entries ordered moved) ∙ named_alike name entries (written u) is in
    λ i. only (λ name. same name i) item

-- ---- the paths that an update writes, kind by kind

mapped_twice : {A B C : Type 0} (f : A → B) (g : B → C) (xs : List A) → map g (map f xs) ≡ map (λ x. g (f x)) xs
mapped_twice f g [] = refl
mapped_twice f g (x ∷ xs) = ap (λ ys. g (f x) ∷ ys) (mapped_twice f g xs)

abbrev steps_in : List DocPath → List (List Step)
steps_in paths = map (λ path. path.steps) paths

abbrev pair_steps : List PathValue → List (List Step)
pair_steps pairs = map (λ pair. pair.path.steps) pairs

by_kind :
    (u : UpdateTree)
    → steps_in (written u) ≡ map (λ set. set.path.steps) u.sets ++ steps_in u.removes ++ pair_steps u.adds ++ pair_steps u.deletes
by_kind u =
    let sets = map (λ x. x.path) u.sets in
    let adds = map (λ x. x.path) u.adds in
    let deletes = map (λ x. x.path) u.deletes in
    let first = mapped_twice (λ x. x.path) (λ path. path.steps) u.sets in
    let third = mapped_twice (λ x. x.path) (λ path. path.steps) u.adds in
    let fourth = mapped_twice (λ x. x.path) (λ path. path.steps) u.deletes in
    let two = map-append (λ path. path.steps) sets u.removes ∙ (λ i. first i ++ steps_in u.removes) in
    let three = map-append (λ path. path.steps) (sets ++ u.removes) adds ∙ (λ i. two i ++ third i) in
    map-append (λ path. path.steps) (sets ++ u.removes ++ adds) deletes ∙ (λ i. three i ++ fourth i)

-- paths that are added kind by kind
pub written_in_turn :
    (update : Update) (none some more most all : List (List Step)) (sets : List SetTo) (removes : List DocPath) (adds deletes : List PathValue)
    → none ≡ [] → sets ≡ update.sets → removes ≡ update.removes → adds ≡ update.adds → deletes ≡ update.deletes
    → some ≡ none ++ map (λ set. set.path.steps) (map set_tree sets) → more ≡ some ++ steps_in removes → most ≡ more ++ pair_steps adds
    → all ≡ most ++ pair_steps deletes → all ≡ steps_in (written (update_tree update))
written_in_turn update none some more most all sets removes adds deletes empty a b c d first second third fourth =
    let one = first ∙ (λ i. empty i ++ map (λ set. set.path.steps) (map set_tree (a i))) in
    let two = second ∙ (λ i. one i ++ steps_in (b i)) in
    let three = third ∙ (λ i. two i ++ pair_steps (c i)) in
    fourth ∙ (λ i. three i ++ pair_steps (d i)) ∙ sym (by_kind (update_tree update))
