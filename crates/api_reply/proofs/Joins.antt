-- What is written stands before what comes behind it.
use Rattle.std.proofs.Common.{◌≡◌, ◌↔◌, ℕ, List, [], ◌∷◌, ◌++◌, Bool, IsTrue, IsFalse, Result, Ok, Err, OnOk, refl, ap, ◌∙◌, append_assoc}
use Rattle.json.specs.Token.{Token, key, begin_object, end_object, begin_array, end_array}
use Rattle.json.specs.Tree.{items_tokens}
use Rattle.json.specs.Written.{Written}
use Rattle.serde_json.specs.Data.{Data, Items, item, array, Members, member, no_members, object}
use Rattle.serde_json.specs.Written.{items_outline}
use Rattle.attr_json.specs.Text.{tokens_of}
use Rattle.api_reply.specs.Descriptions.{indexes}
use Rattle.api_reply.specs.Json.{Adds, inside, list_of, optional}

-- a name and then its value are a member
pub joins : (old : List Token) (name : List ℕ) (d : Data) (rest : Members)
    → ((old ++ key name ∷ []) ++ tokens_of d) ++ inside rest ≡ old ++ inside (member name d rest)
joins old name d rest = append_assoc (old ++ key name ∷ []) (tokens_of d) (inside rest) ∙ append_assoc old (key name ∷ []) (tokens_of d ++ inside rest)

-- members and then further ones
pub further : (f g : Members → Members) (a b c : Written) → Adds f a b → Adds g b c → Adds (λ rest. f (g rest)) a c
unfolding Adds
further f g a b c p q rest = q rest ∙ p (g rest)

-- members between the brackets of an object
pub wrapped : {E : Type 0} (r : Result (Unit {0}) E) (f : Members → Members) (old : List Token) (a b : Written) (new : List Token)
    → a.tokens ≡ old ++ begin_object ∷ [] → Adds f a b → OnOk r (new ≡ b.tokens ++ end_object ∷ [])
    → OnOk r (new ≡ old ++ tokens_of (object (f no_members)))
unfolding Adds
wrapped (Ok u) f old a b new opened added closed =
    closed ∙ added no_members ∙ ap (λ ts. ts ++ inside (f no_members)) opened ∙ append_assoc old (begin_object ∷ []) (inside (f no_members))
wrapped (Err e) f old a b new opened added closed = tt

-- an element and then the last ones between the brackets of a list
pub listed : {E : Type 0} (r : Result (Unit {0}) E) (d : Data) (ds : Items) (old a b c new : List Token)
    → a ≡ old ++ begin_array ∷ [] → b ≡ a ++ tokens_of d → c ++ end_array ∷ [] ≡ b ++ items_tokens (items_outline ds)
    → OnOk r (new ≡ c ++ end_array ∷ []) → OnOk r (new ≡ old ++ tokens_of (array (item d ds)))
listed (Ok u) d ds old a b c new opened first others closed =
    let rest = items_tokens (items_outline ds) in
    closed ∙ others ∙ ap (λ ts. ts ++ rest) (first ∙ ap (λ ts. ts ++ tokens_of d) opened)
    ∙ append_assoc (old ++ begin_array ∷ []) (tokens_of d) rest ∙ append_assoc old (begin_array ∷ []) (tokens_of d ++ rest)
listed (Err e) d ds old a b c new opened first others closed = tt

-- an element and then the end of its list
pub last_one : {E : Type 0} (r : Result (Unit {0}) E) (d : Data) (old new : List Token) → OnOk r (new ≡ old ++ tokens_of d)
    → OnOk r (new ++ end_array ∷ [] ≡ old ++ (tokens_of d ++ end_array ∷ []))
last_one (Ok u) d old new h = ap (λ ts. ts ++ end_array ∷ []) h ∙ append_assoc old (tokens_of d) (end_array ∷ [])
last_one (Err e) d old new h = tt

-- there are indexes
pub some_indexes : {E A : Type 0} (r : Result (Unit {0}) E) (b : Bool) (made : A → Data) (list : List A) (name : List ℕ) (old new : Written)
    → (IsTrue b ↔ (list ≡ [])) → IsFalse b → OnOk r (Adds (member name (list_of made list)) old new)
    → OnOk r (Adds (optional name (indexes made list)) old new)
some_indexes r b made [] name old new same none added = absurd (let h : ⊥ = let t : IsTrue b = same.1 refl in cc in h)
some_indexes r b made (x ∷ xs) name old new same none added = added
