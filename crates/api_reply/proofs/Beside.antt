-- An object with what was consumed, before or behind its other members.
use Rattle.std.proofs.Common.{◌≡◌, ℕ, List, [], ◌∷◌, ◌++◌, codes, Option, None, Some, Result, Ok, Err, OnOk, refl, sym, ap, ◌∙◌, append_assoc, append-nil}
use Rattle.std.proofs.lemmas.List.{append_cancel_right}
use Rattle.json.specs.Json as json
use Rattle.json.specs.Json.{Json}
use Rattle.json.specs.Token.{Token, key, begin_object, end_object}
use Rattle.json.specs.Tree.{members_tokens}
use Rattle.json.specs.Written.{Written}
use Rattle.serde_json.specs.Data.{Data, Members, no_members, object}
use Rattle.serde_json.specs.Written.{members_outline}
use Rattle.attr_json.specs.Text.{tokens_of}
use Rattle.api_reply.specs.Capacity.{put, consumed_tokens, beside}
use Rattle.api_reply.specs.Json.{Adds, inside, optional}

-- what was consumed stands before these members
abbrev pub GoesFirst : Members → Type 0
GoesFirst ms = (j : Json) → put (codes "ConsumedCapacity") j (members_outline ms) ≡ json.member (codes "ConsumedCapacity") j (members_outline ms)

first_tokens : (consumed : Option Json) (ms : Members) → GoesFirst ms → beside consumed (object ms) ≡ begin_object ∷ (consumed_tokens consumed ++ inside ms)
first_tokens None ms first = refl
first_tokens (Some j) ms first = ap (λ members. begin_object ∷ members_tokens members) (first j)

-- an object was begun, and what was consumed was written
in_front : (consumed : Option Json) (ms : Members) (old a b : List Token) → a ≡ old ++ begin_object ∷ [] → b ≡ a ++ consumed_tokens consumed
    → GoesFirst ms → b ++ inside ms ≡ old ++ beside consumed (object ms)
in_front consumed ms old a b opened told first =
    let ct = consumed_tokens consumed in
    ap (λ ts. ts ++ inside ms) (told ∙ ap (λ ts. ts ++ ct) opened) ∙ append_assoc (old ++ begin_object ∷ []) ct (inside ms)
    ∙ append_assoc old (begin_object ∷ []) (ct ++ inside ms) ∙ ap (λ ts. old ++ ts) (sym (first_tokens consumed ms first))

-- and then the others
pub wrapped_first : {E : Type 0} (r : Result (Unit {0}) E) (consumed : Option Json) (f : Members → Members) (old a : List Token) (b c : Written) (new : List Token)
    → a ≡ old ++ begin_object ∷ [] → b.tokens ≡ a ++ consumed_tokens consumed → Adds f b c → GoesFirst (f no_members)
    → OnOk r (new ≡ c.tokens ++ end_object ∷ []) → OnOk r (new ≡ old ++ beside consumed (object (f no_members)))
unfolding Adds
wrapped_first (Ok u) consumed f old a b c new opened told added first closed =
    closed ∙ added no_members ∙ in_front consumed (f no_members) old a b.tokens opened told first
wrapped_first (Err e) consumed f old a b c new opened told added first closed = tt

-- and nothing else
pub wrapped_alone : {E : Type 0} (r : Result (Unit {0}) E) (consumed : Option Json) (old a b new : List Token)
    → a ≡ old ++ begin_object ∷ [] → b ≡ a ++ consumed_tokens consumed → OnOk r (new ≡ b ++ end_object ∷ [])
    → OnOk r (new ≡ old ++ beside consumed (object no_members))
wrapped_alone (Ok u) consumed old a b new opened told closed = closed ∙ in_front consumed no_members old a b opened told (λ j. refl)
wrapped_alone (Err e) consumed old a b new opened told closed = tt

-- before the item, where there is one
pub item_goes_last : (o : Option Data) → GoesFirst (optional (codes "Item") o no_members)
item_goes_last None j = refl
item_goes_last (Some d) j = refl

-- ---- behind the attributes

-- the tokens of a member that stands where it has a value
abbrev optional_tokens : List ℕ → Option Data → List Token
optional_tokens name None = []
optional_tokens name (Some d) = key name ∷ tokens_of d

-- where members were written, they are the tokens that they stand for
were_added : (name : List ℕ) (o : Option Data) (a b : Written) → Adds (optional name o) a b → b.tokens ≡ a.tokens ++ optional_tokens name o
unfolding Adds
were_added name None a b added = append_cancel_right _ _ (end_object ∷ []) (added no_members ∙ ap (λ ts. ts ++ end_object ∷ []) (sym (append-nil a.tokens)))
were_added name (Some d) a b added =
    append_cancel_right _ _ (end_object ∷ []) (added no_members ∙ sym (append_assoc a.tokens (key name ∷ tokens_of d) (end_object ∷ [])))

last_tokens : (consumed : Option Json) (o : Option Data)
    → beside consumed (object (optional (codes "Attributes") o no_members))
    ≡ begin_object ∷ (optional_tokens (codes "Attributes") o ++ (consumed_tokens consumed ++ end_object ∷ []))
last_tokens None None = refl
last_tokens (Some j) None = refl
last_tokens None (Some d) = refl
last_tokens (Some j) (Some d) = refl

-- an object was begun, the attributes were written, and then what was consumed
pub wrapped_last : {E : Type 0} (r : Result (Unit {0}) E) (consumed : Option Json) (o : Option Data) (old : List Token) (a b : Written) (c new : List Token)
    → a.tokens ≡ old ++ begin_object ∷ [] → Adds (optional (codes "Attributes") o) a b → c ≡ b.tokens ++ consumed_tokens consumed
    → OnOk r (new ≡ c ++ end_object ∷ []) → OnOk r (new ≡ old ++ beside consumed (object (optional (codes "Attributes") o no_members)))
wrapped_last (Ok u) consumed o old a b c new opened added told closed =
    let ct = consumed_tokens consumed in
    let ot = optional_tokens (codes "Attributes") o in
    let end = end_object ∷ [] in
    closed ∙ ap (λ ts. ts ++ end) told ∙ append_assoc b.tokens ct end
    ∙ ap (λ ts. ts ++ (ct ++ end)) (were_added _ o a b added ∙ ap (λ ts. ts ++ ot) opened)
    ∙ append_assoc (old ++ begin_object ∷ []) ot (ct ++ end) ∙ append_assoc old (begin_object ∷ []) (ot ++ (ct ++ end))
    ∙ ap (λ ts. old ++ ts) (sym (last_tokens consumed o))
wrapped_last (Err e) consumed o old a b c new opened added told closed = tt
