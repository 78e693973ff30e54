-- Lists that are read element by element: what was read, and what the rest comes to.
use Rattle.std.proofs.Common.{◌≡◌, ℕ, List, [], ◌∷◌, ◌++◌, Result, Ok, Err, refl, sym, ap, ◌∙◌, append_assoc}
use Rattle.serde_json.specs.Data.{Data, Items, item}
use Rattle.attr_value.specs.Tree.{Trees, no_trees, tree}
use Rattle.attr_value.specs.View.{tree_of, trees_of}
use Rattle.attr_value.specs.declared.value.Value.{Value}
use Rattle.attr_json.specs.declared.fault.JsonFault.{JsonFault}
use Rattle.attr_json.specs.Steps.{and_then, mapped}
use Rattle.attr_json.specs.Values.{value_of, elements_of, each}

mapped_twice : {A B C : Type 0} (f : B → C) (g : A → B) (h : A → C) (r : Result A JsonFault) → ((a : A) → f (g a) ≡ h a) → mapped f (mapped g r) ≡ mapped h r
mapped_twice f g h (Ok a) same = ap (λ x. Ok x) (same a)
mapped_twice f g h (Err fault) same = refl

-- one more text was read
pub each_step : {A : Type 0} (read : List ℕ → Result A JsonFault) (done : List A) (s : List ℕ) (ss : List (List ℕ)) (a : A) → read s ≡ Ok a
    → mapped (λ rest. (done ++ a ∷ []) ++ rest) (each read ss) ≡ mapped (λ rest. done ++ rest) (each read (s ∷ ss))
each_step read done s ss a is =
    sym (ap (λ r. mapped (λ rest. done ++ rest) (and_then (λ x. mapped (λ rest. x ∷ rest) (each read ss)) r)) is
    ∙ mapped_twice (λ rest. done ++ rest) (λ rest. a ∷ rest) (λ rest. (done ++ a ∷ []) ++ rest) (each read ss) (λ rest. sym (append_assoc done (a ∷ []) rest)))

-- a text is at fault
pub each_fault : {A : Type 0} (read : List ℕ → Result A JsonFault) (done : List A) (s : List ℕ) (ss : List (List ℕ)) (fault : JsonFault) → read s ≡ Err fault
    → mapped (λ rest. done ++ rest) (each read (s ∷ ss)) ≡ Err fault
each_fault read done s ss fault is = ap (λ r. mapped (λ rest. done ++ rest) (and_then (λ x. mapped (λ rest. x ∷ rest) (each read ss)) r)) is

-- ---- elements of a list

-- values before the elements that are left
abbrev pub before : List Value → Trees → Trees
before [] rest = rest
before (v ∷ vs) rest = tree (tree_of v) (before vs rest)

pub before-none : (vs : List Value) → before vs no_trees ≡ trees_of vs
before-none [] = refl
before-none (v ∷ vs) = ap (tree (tree_of v)) (before-none vs)

pub before-one : (vs : List Value) (v : Value) (rest : Trees) → before (vs ++ v ∷ []) rest ≡ before vs (tree (tree_of v) rest)
before-one [] v rest = refl
before-one (w ∷ vs) v rest = ap (tree (tree_of w)) (before-one vs v rest)

-- one more element was read
pub element_step : (done : List Value) (d : Data) (ds : Items) (levels : ℕ) (v : Value) → value_of d levels ≡ Ok (tree_of v)
    → mapped (before (done ++ v ∷ [])) (elements_of ds levels) ≡ mapped (before done) (elements_of (item d ds) levels)
element_step done d ds levels v is =
    sym (ap (λ r. mapped (before done) (and_then (λ t. mapped (tree t) (elements_of ds levels)) r)) is
    ∙ mapped_twice (before done) (tree (tree_of v)) (before (done ++ v ∷ [])) (elements_of ds levels) (λ rest. sym (before-one done v rest)))

-- an element is at fault
pub element_fault : (done : List Value) (d : Data) (ds : Items) (levels : ℕ) (fault : JsonFault) → value_of d levels ≡ Err fault
    → mapped (before done) (elements_of (item d ds) levels) ≡ Err fault
element_fault done d ds levels fault is = ap (λ r. mapped (before done) (and_then (λ t. mapped (tree t) (elements_of ds levels)) r)) is
