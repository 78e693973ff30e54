-- A search among all operations by name.
use Rattle.std.proofs.Common.{◌≡◌, ℕ, true, false, List, [], ◌∷◌, ◌++◌, length, take, drop, sym, ap, subst, ◌∙◌, Option, Some, None, codes, nat_eq}
use Rattle.std.specs.Prelude.{⊤}
use Rattle.std.specs.Cmp.Lexicographic.{pointwise, bytes_decides}
use Rattle.std.proofs.Math.Seq.{drop-append_seam, take-append_seam}
use Rattle.std.proofs.lemmas.List.{take-append-drop}
use Rattle.std.proofs.lemmas.Bool.{false≢true}
use Rattle.api_request.specs.declared.operation.Operation.{Operation}
use Rattle.api_request.specs.declared.operation.Operation.TheVariants as operation
use Rattle.api_request.specs.Operations.{name_of, HasName, IsTarget}

-- none of these has the name
unfoldable pub Miss : List Operation → List ℕ → Type 0
Miss [] name = ⊤
Miss (o ∷ others) name = (¬ (name ≡ name_of o)) × Miss others name

-- at the end nothing is left to have it
pub none_left : (left : List Operation) (name : List ℕ) → left ≡ [] → Miss left name
unfolding Miss
none_left left name is = subst (λ os. Miss os name) (sym is) tt

-- one further that has it not
pub one_missed : (o : Operation) (here others : List Operation) (name : List ℕ) → here ≡ o ∷ others → ¬ (name ≡ name_of o)
    → Miss others name → Miss here name
unfolding Miss
one_missed o here others name is not_it missed = subst (λ os. Miss os name) (sym is) (not_it, missed)

-- all operations
abbrev pub all : List Operation
all = operation.PutItem ∷ operation.GetItem ∷ operation.UpdateItem ∷ operation.DeleteItem ∷ operation.Query ∷ operation.Scan
    ∷ operation.BatchGetItem ∷ operation.BatchWriteItem ∷ operation.TransactWriteItems ∷ operation.TransactGetItems
    ∷ operation.CreateTable ∷ operation.DeleteTable ∷ operation.UpdateTable ∷ operation.DescribeTable ∷ operation.ListTables
    ∷ operation.UpdateTimeToLive ∷ operation.DescribeTimeToLive ∷ []

-- where none of them has it, no operation has
pub no_operation : (name : List ℕ) → Miss all name → (o : Operation) → ¬ (name ≡ name_of o)
unfolding Miss
no_operation name none operation.PutItem = none.0
no_operation name none operation.GetItem = none.1.0
no_operation name none operation.UpdateItem = none.1.1.0
no_operation name none operation.DeleteItem = none.1.1.1.0
no_operation name none operation.Query = none.1.1.1.1.0
no_operation name none operation.Scan = none.1.1.1.1.1.0
no_operation name none operation.BatchGetItem = none.1.1.1.1.1.1.0
no_operation name none operation.BatchWriteItem = none.1.1.1.1.1.1.1.0
no_operation name none operation.TransactWriteItems = none.1.1.1.1.1.1.1.1.0
no_operation name none operation.TransactGetItems = none.1.1.1.1.1.1.1.1.1.0
no_operation name none operation.CreateTable = none.1.1.1.1.1.1.1.1.1.1.0
no_operation name none operation.DeleteTable = none.1.1.1.1.1.1.1.1.1.1.1.0
no_operation name none operation.UpdateTable = none.1.1.1.1.1.1.1.1.1.1.1.1.0
no_operation name none operation.DescribeTable = none.1.1.1.1.1.1.1.1.1.1.1.1.1.0
no_operation name none operation.ListTables = none.1.1.1.1.1.1.1.1.1.1.1.1.1.1.0
no_operation name none operation.UpdateTimeToLive = none.1.1.1.1.1.1.1.1.1.1.1.1.1.1.1.0
no_operation name none operation.DescribeTimeToLive = none.1.1.1.1.1.1.1.1.1.1.1.1.1.1.1.1.0

-- the texts before and behind a seam are known from the whole
pub version_stripped : (version target name : List ℕ) → pointwise nat_eq (take (length version) target) version ≡ true
    → name ≡ drop (length version) target → version ++ name ≡ target
version_stripped version target name found is =
    (λ i. sym ((bytes_decides (take (length version) target) version).0 found) i ++ is i) ∙ take-append-drop (length version) target

no_front : (version name : List ℕ) → pointwise nat_eq (take (length version) (version ++ name)) version ≡ true
no_front version name = (bytes_decides (take (length version) (version ++ name)) version).1 (take-append_seam version name)

-- a target that does not begin with the version names no operation
pub no_version : (version target name : List ℕ) → pointwise nat_eq (take (length version) target) version ≡ false → ¬ (target ≡ version ++ name)
no_version version target name none is =
    false≢true (sym none ∙ ap (λ t. pointwise nat_eq (take (length version) t) version) is ∙ no_front version name)

-- what a name says, said of the target
pub behind_version : (version target name : List ℕ) (named : Option Operation) → version ++ name ≡ target → HasName name named
    → version ≡ codes "DynamoDB_20120810." → IsTarget target named
behind_version version target name (Some o) is has v = sym is ∙ (λ i. v i ++ has i)
behind_version version target name None is has v =
    λ o at. has o (sym (drop-append_seam version name) ∙ ap (drop (length version)) (is ∙ at ∙ ap (λ w. w ++ name_of o) (sym v))
    ∙ drop-append_seam version (name_of o))
