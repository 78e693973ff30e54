-- A write and an expiration are answered by the tables of the one order.
use Rattle.std.proofs.Common.{◌≡◌, ℕ, Bool, true, false, List, Option, None, Some, if◌then◌else◌, refl, sym, ◌∙◌, subst}
use Rattle.txn_core.specs.declared.message.Message.{Message}
use Rattle.txn_core.specs.declared.answer.Answer.{Answer}
use Rattle.txn_core.specs.declared.entry.Entry.{Entry}
use Rattle.txn_core.specs.declared.outcome.Outcome.{Outcome}
use Rattle.txn_core.specs.declared.outcome.Outcome.TheVariants.{New, Unmet, Fails}
use Rattle.txn_core.specs.Service.{Service, IsServiceLawful}
use Rattle.txn_core.specs.State.{holder, state_after}
use Rattle.txn_core.specs.Serial.{serial, catalog_of, tables}
use Rattle.txn_core.specs.Answers.{write_answer, expire_answer}
use Rattle.txn_core.specs.History.{effects}
use Rattle.txn_core.specs.Legal.{state, only_expired, IsAnswer, IsLegal}
use Rattle.txn_core.specs.Laws.{IsSerialWrite, IsSerialExpiration}
use Rattle.txn_core.proofs.Basics.{none_some, some_is, true_false}
use Rattle.txn_core.proofs.Bridge.{unheld}
use Rattle.txn_core.proofs.Kept.{good}
use Rattle.txn_core.proofs.LegalRuns.{legal_run}
use Rattle.txn_core.proofs.Readings.{catalog_read, tab_read}

module _ {K V A F C D Q B : Type 0} (S : Service K V A F C D Q B) (law : IsServiceLawful S) where
  pub catalog_is_serial : (es : List (Entry K V A F D Q B)) → (state_after S.core (effects es)).catalog ≡ catalog_of S.core (serial (effects es))
  catalog_is_serial es = catalog_read S.core (effects es)

  module _ (es : List (Entry K V A F D Q B)) (legal : IsLegal S es) (action : A) where
    -- the row of an item that nothing holds is the item of the tables
    free_row : holder ((state_after S.core (effects es)).spot (S.core.key_of action)).pend ≡ None → ((state_after S.core (effects es)).spot (S.core.key_of action)).row ≡ tables S.core (serial (effects es)) (S.core.key_of action)
    free_row none =
        let run = legal_run S law es legal in
        let q = S.core.key_of action in
        ((good S.core law.core (effects es) run).spots q).free (unheld ((state_after S.core (effects es)).spot q).pend none) ∙ tab_read S.core (effects es) run q

    by_cell : (b : Bool) (h : Option ℕ) (o : Outcome V F) → S.core.there (state_after S.core (effects es)).catalog (S.core.key_of action) ≡ b → holder ((state_after S.core (effects es)).spot (S.core.key_of action)).pend ≡ h → S.core.act (state_after S.core (effects es)).catalog action ((state_after S.core (effects es)).spot (S.core.key_of action)).row ≡ o → IsSerialWrite S es action (write_answer b h ((state_after S.core (effects es)).spot (S.core.key_of action)).row o)
    by_cell false h o is_there is_held is_out = sym (λ j. S.core.there (catalog_is_serial es j) (S.core.key_of action)) ∙ is_there
    by_cell true (Some n) o is_there is_held is_out = is_held
    by_cell true None (New v) is_there is_held is_out = (free_row is_held, sym (λ j. S.core.act (catalog_is_serial es j) action ((state_after S.core (effects es)).spot (S.core.key_of action)).row) ∙ is_out)
    by_cell true None Unmet is_there is_held is_out = (free_row is_held, sym (λ j. S.core.act (catalog_is_serial es j) action ((state_after S.core (effects es)).spot (S.core.key_of action)).row) ∙ is_out)
    by_cell true None (Fails fault) is_there is_held is_out = sym (λ j. S.core.act (catalog_is_serial es j) action (free_row is_held j)) ∙ is_out

  pub writes_are_serial : (es : List (Entry K V A F D Q B)) → IsLegal S es → (moment : ℕ) (action : A) (a : Answer K V A F B) → IsAnswer S es moment (Message.Write action) a → IsSerialWrite S es action a
  writes_are_serial es legal moment action a is =
      let w = state_after S.core (effects es) in
      let q = S.core.key_of action in
      subst (λ x. IsSerialWrite S es action x) (sym is)
      (by_cell es legal action (S.core.there w.catalog q) (holder (w.spot q).pend) (S.core.act w.catalog action (w.spot q).row) refl refl refl)

  module _ (es : List (Entry K V A F D Q B)) (legal : IsLegal S es) (moment : ℕ) (action : A) where
    abbrev row_now : Option V
    row_now = ((state S es).spot (S.core.key_of action)).row

    abbrev IsFree : Type 0
    IsFree = holder ((state S es).spot (S.core.key_of action)).pend ≡ None

    -- where nothing holds the item, the tables' item and what the action makes of it
    found_row : (r : Option V) → IsFree → row_now ≡ r → tables S.core (serial (effects es)) (S.core.key_of action) ≡ r
    found_row r free is = sym (free_row es legal action free) ∙ is

    found_outcome : (v : V) (o : Outcome V F) → row_now ≡ Some v → S.core.act (state S es).catalog action row_now ≡ o
        → S.core.act (catalog_of S.core (serial (effects es))) action (Some v) ≡ o
    found_outcome v o is out = sym (λ j. S.core.act (catalog_is_serial es j) action (is j)) ∙ out

    found_time : (v : V) (b : Bool) → S.core.expired (state S es).catalog (S.core.key_of action) v moment ≡ b
        → S.core.expired (catalog_of S.core (serial (effects es))) (S.core.key_of action) v moment ≡ b
    found_time v b is = sym (λ j. S.core.expired (catalog_is_serial es j) (S.core.key_of action) v moment) ∙ is

    kept_none : IsFree → row_now ≡ None → IsSerialExpiration S es moment action Answer.Kept
    kept_none free is v at over gone = none_some (tables S.core (serial (effects es)) (S.core.key_of action)) v (found_row None free is) at

    kept_some : (x : V) → IsFree → row_now ≡ Some x
        → (S.core.expired (catalog_of S.core (serial (effects es))) (S.core.key_of action) x moment ≡ true
        → S.core.act (catalog_of S.core (serial (effects es))) action (Some x) ≡ New None → ⊥)
        → IsSerialExpiration S es moment action Answer.Kept
    kept_some x free is other v at over gone =
        let same : v ≡ x = some_is v x (sym at ∙ found_row (Some x) free is) in
        other (subst (λ y. S.core.expired (catalog_of S.core (serial (effects es))) (S.core.key_of action) y moment ≡ true) same over)
        (subst (λ y. S.core.act (catalog_of S.core (serial (effects es))) action (Some y) ≡ New None) same gone)

    by_outcome : (x : V) → IsFree → row_now ≡ Some x → S.core.expired (state S es).catalog (S.core.key_of action) x moment ≡ true
        → (o : Outcome V F) → S.core.act (state S es).catalog action row_now ≡ o
        → IsSerialExpiration S es moment action (expire_answer true None (Some x) o)
    by_outcome x free is over (New None) out = (found_row (Some x) free is, found_time x true over, found_outcome x (New None) is out)
    by_outcome x free is over (New (Some y)) out = kept_some x free is (λ _ gone. let e = found_outcome x (New (Some y)) is out in cc)
    by_outcome x free is over Unmet out = kept_some x free is (λ _ gone. let e = found_outcome x Unmet is out in cc)
    by_outcome x free is over (Fails fault) out = kept_some x free is (λ _ gone. let e = found_outcome x (Fails fault) is out in cc)

    by_time : (x : V) → IsFree → row_now ≡ Some x → (b : Bool) → S.core.expired (state S es).catalog (S.core.key_of action) x moment ≡ b
        → (o : Outcome V F) → S.core.act (state S es).catalog action row_now ≡ o
        → IsSerialExpiration S es moment action (expire_answer true None (if b then Some x else None) o)
    by_time x free is true over o out = by_outcome x free is over o out
    by_time x free is false over o out =
        kept_some x free is (λ late _. true_false (S.core.expired (catalog_of S.core (serial (effects es))) (S.core.key_of action) x moment) late (found_time x false over))

    by_row : (b : Bool) (h : Option ℕ) (r : Option V) (o : Outcome V F) → S.core.there (state S es).catalog (S.core.key_of action) ≡ b
        → holder ((state S es).spot (S.core.key_of action)).pend ≡ h → row_now ≡ r → S.core.act (state S es).catalog action row_now ≡ o
        → IsSerialExpiration S es moment action (expire_answer b h (only_expired S (state S es).catalog (S.core.key_of action) moment r) o)
    by_row false h r o is_there is_held is_row is_out = sym (λ j. S.core.there (catalog_is_serial es j) (S.core.key_of action)) ∙ is_there
    by_row true (Some n) r o is_there is_held is_row is_out = is_held
    by_row true None None o is_there is_held is_row is_out = kept_none is_held is_row
    by_row true None (Some x) o is_there is_held is_row is_out =
        by_time x is_held is_row (S.core.expired (state S es).catalog (S.core.key_of action) x moment) refl o is_out

  pub expirations_are_serial : (es : List (Entry K V A F D Q B)) → IsLegal S es → (moment : ℕ) (action : A) (a : Answer K V A F B) → IsAnswer S es moment (Message.Expire action) a → IsSerialExpiration S es moment action a
  expirations_are_serial es legal moment action a is =
      let w = state_after S.core (effects es) in
      let q = S.core.key_of action in
      subst (λ x. IsSerialExpiration S es moment action x) (sym is)
      (by_row es legal moment action (S.core.there w.catalog q) (holder (w.spot q).pend) (w.spot q).row (S.core.act w.catalog action (w.spot q).row) refl refl refl refl)
