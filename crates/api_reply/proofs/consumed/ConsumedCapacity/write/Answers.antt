use Rattle.std.proofs.Common.{◌≡◌, List, [], ◌∷◌, ◌++◌, codes, Result, Ok, Err, OnOk, ap, ◌∙◌, append_assoc}
use Rattle.json.specs.Token.{Token, begin_object, end_object, key, number, string}
use Rattle.json.specs.Tree.{json_tokens}
use Rattle.capacity.specs.Units.{units}
use Rattle.table_request.specs.declared.consumed.Consumed.{Consumed}
use Rattle.api_reply.specs.Capacity.{capacity}
use Rattle.api_reply.proofs.consumed.ConsumedCapacity.write.Goals as goal

-- one token more
pushed : (old ts a new : List Token) (t : Token) → a ≡ old ++ ts → new ≡ a ++ t ∷ [] → new ≡ old ++ (ts ++ t ∷ [])
pushed old ts a new t before more = more ∙ ap (λ all. all ++ t ∷ []) before ∙ append_assoc old ts (t ∷ [])

all_six : {E : Type 0} (r : Result (Unit {0}) E) (used : Consumed) (old a b d e f new : List Token)
    → a ≡ old ++ begin_object ∷ [] → b ≡ a ++ key (codes "CapacityUnits") ∷ [] → d ≡ b ++ number (units used.halves) ∷ []
    → e ≡ d ++ key (codes "TableName") ∷ [] → f ≡ e ++ string used.table ∷ [] → OnOk r (new ≡ f ++ end_object ∷ [])
    → OnOk r (new ≡ old ++ json_tokens (capacity used))
all_six (Ok u) used old a b d e f new opened first amount second name closed =
    let two = begin_object ∷ key (codes "CapacityUnits") ∷ [] in
    let four = two ++ number (units used.halves) ∷ key (codes "TableName") ∷ [] in
    let started = pushed old (begin_object ∷ []) a b _ opened first in
    let told = pushed old two b d _ started amount in
    let named = pushed old (two ++ number (units used.halves) ∷ []) d e _ told second in
    pushed old (four ++ string used.table ∷ []) f new _ (pushed old four e f _ named name) closed
all_six (Err e') used old a b d e f new opened first amount second name closed = tt

pub returns-clause-tokens : goal.returns-clause-tokens
returns-clause-tokens c =
    all_six _ c.args.self.now _ _ _ _ _ _ _ c.in_ok-begin_object.ensures.ok c.in_ok-key.ensures.ok c.in_ok-write_units.ensures.tokens
    c.in_ok-key-2.ensures.ok (rw c.as_str.ensures at c.in_ok-string.ensures.ok) c.end_object.ensures.ok
