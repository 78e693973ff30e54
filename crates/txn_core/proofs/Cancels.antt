-- A cancel names for every action its real cause.
use Rattle.std.proofs.Common.{◌≡◌, inl, inr, ℕ, zero, suc, Bool, true, false, nat_eq, List, [], ◌∷◌, Option, None, Some, refl, sym, ap, ◌∙◌, subst, arith}
use Rattle.std.specs.Prelude.{slice_get}
use Rattle.std.proofs.lemmas.Bool.{cond_both, and_parts, eqb-true, eqb-false}
use Rattle.txn_core.specs.declared.stamp.Stamp.{Stamp}
use Rattle.txn_core.specs.declared.reason.Reason.{Reason}
use Rattle.txn_core.specs.declared.message.Message.{Message}
use Rattle.txn_core.specs.declared.answer.Answer.{Answer}
use Rattle.txn_core.specs.declared.entry.Entry.{Entry}
use Rattle.txn_core.specs.declared.outcome.Outcome.{Outcome}
use Rattle.txn_core.specs.declared.outcome.Outcome.TheVariants.{New, Unmet, Fails}
use Rattle.txn_core.specs.Stamps.{earlier}
use Rattle.txn_core.specs.Service.{Service, IsServiceLawful}
use Rattle.txn_core.specs.State.{holder, on_item, state_after}
use Rattle.txn_core.specs.Serial.{begun_stamp, begun_actions}
use Rattle.txn_core.specs.Answers.{outcome_answer, prepare_answer}
use Rattle.txn_core.specs.History.{reason_of, effects, Had, begins}
use Rattle.txn_core.specs.Legal.{prepares, WasTold, AreTold, Allowed, IsAnswer, IsLegal}
use Rattle.txn_core.specs.Laws.{item_by, last_by, IsCause, HadThisCause, HadCauses, CancelsAreReal}
use Rattle.txn_core.proofs.Bridge.{unheld}
use Rattle.txn_core.proofs.Kept.{good}
use Rattle.txn_core.proofs.LegalRuns.{legal_run}
use Rattle.txn_core.proofs.Prefix.{had_more, same_actions, same_stamp}
use Rattle.txn_core.proofs.Readings.{tab_read}
use Rattle.txn_core.proofs.Records.{begun_apart, found_apart}
use Rattle.txn_core.proofs.Writes.{catalog_is_serial}

module _ {K V A F C D Q B : Type 0} (S : Service K V A F C D Q B) (law : IsServiceLawful S) (n : ℕ) (stamp : Stamp) where
  module _ (es : List (Entry K V A F D Q B)) (legal : IsLegal S es) (x : A) where
    free_row : holder ((state_after S.core (effects es)).spot (S.core.key_of x)).pend ≡ None
        → ((state_after S.core (effects es)).spot (S.core.key_of x)).row ≡ item_by S es (S.core.key_of x)
    free_row none =
        let run = legal_run S law es legal in
        let q = S.core.key_of x in
        ((good S.core law.core (effects es) run).spots q).free (unheld ((state_after S.core (effects es)).spot q).pend none) ∙ tab_read S.core (effects es) run q

    reason_is : (a : Answer K V A F B) (given r : Reason V F) → reason_of a ≡ Some given → reason_of a ≡ Some r → given ≡ r
    reason_is a given r is told = cc

    -- the cause behind each answer of a Prepare
    by_cell :
        (b : Bool) (h : Option ℕ) (o : Outcome V F) (r : Reason V F) → holder ((state_after S.core (effects es)).spot (S.core.key_of x)).pend ≡ h
        → S.core.act (state_after S.core (effects es)).catalog x ((state_after S.core (effects es)).spot (S.core.key_of x)).row ≡ o
        → reason_of {K = K} {A = A} {B = B} (prepare_answer b h n (last_by S es (S.core.key_of x)) stamp ((state_after S.core (effects es)).spot (S.core.key_of x)).row o) ≡ Some r
        → IsCause S es n stamp x r
    by_cell false h o r held out told = absurd (cc)
    by_cell true (Some m) o r held out told =
        cond_both (nat_eq m n) Answer.Accepted (Answer.Held m) (λ (a : Answer K V A F B). reason_of a ≡ Some r → IsCause S es n stamp x r)
        (λ _ t. subst (λ y. IsCause S es n stamp x y) (reason_is Answer.Accepted Reason.None r refl t) tt)
        (λ apart t. subst (λ y. IsCause S es n stamp x y) (reason_is (Answer.Held m) (Reason.Held m) r refl t) (held, λ e. eqb-false m n apart e))
        told
    by_cell true None o r held out told =
        cond_both (earlier (last_by S es (S.core.key_of x)) stamp) (outcome_answer ((state_after S.core (effects es)).spot (S.core.key_of x)).row o) (Answer.Late (last_by S es (S.core.key_of x)))
        (λ (a : Answer K V A F B). reason_of a ≡ Some r → IsCause S es n stamp x r)
        (λ _ t. by_outcome o out t)
        (λ late t. subst (λ y. IsCause S es n stamp x y) (reason_is (Answer.Late (last_by S es (S.core.key_of x))) (Reason.Late (last_by S es (S.core.key_of x))) r refl t) (refl, late))
        told
      where
        by_outcome :
            (y : Outcome V F) → S.core.act (state_after S.core (effects es)).catalog x ((state_after S.core (effects es)).spot (S.core.key_of x)).row ≡ y
            → reason_of {K = K} {A = A} {B = B} (outcome_answer ((state_after S.core (effects es)).spot (S.core.key_of x)).row y) ≡ Some r
            → IsCause S es n stamp x r
        by_outcome (New v) is t = subst (λ y. IsCause S es n stamp x y) (reason_is Answer.Accepted Reason.None r refl t) tt
        by_outcome Unmet is t =
            let row = ((state_after S.core (effects es)).spot (S.core.key_of x)).row in
            subst (λ y. IsCause S es n stamp x y) (reason_is (Answer.CondFalse row) (Reason.ConditionFalse row) r refl t)
            (free_row held, sym (λ j. S.core.act (catalog_is_serial S law es j) x row) ∙ is)
        by_outcome (Fails fault) is t =
            subst (λ y. IsCause S es n stamp x y) (reason_is (Answer.Invalid fault) (Reason.Invalid fault) r refl t)
            (sym (λ j. S.core.act (catalog_is_serial S law es j) x (free_row held j)) ∙ is)

    prepare_cause : (moment : ℕ) (a : Answer K V A F B) (r : Reason V F) → IsAnswer S es moment (Message.Prepare n stamp x) a → reason_of a ≡ Some r → IsCause S es n stamp x r
    prepare_cause moment a r answer told =
        let w = state_after S.core (effects es) in
        let q = S.core.key_of x in
        by_cell (S.core.there w.catalog q) (holder (w.spot q).pend) (S.core.act w.catalog x (w.spot q).row) r refl refl (sym (ap (λ y. reason_of y) answer) ∙ told)

  -- the number has these actions and this stamp from its Begin on
  abbrev HasThese : List A → List (Entry K V A F D Q B) → Type 0
  HasThese actions es = Had (begins n) es → (begun_actions (effects es) n ≡ actions) × (begun_stamp (effects es) n ≡ stamp)

  -- a Prepare of the number on the item of one of its actions is of that action
  own_prepare :
      (actions : List A) (es : List (Entry K V A F D Q B)) → HasThese actions es → (x : A) → on_item S.core actions (S.core.key_of x) ≡ Some x
      → (pass : ℕ) (m : Message K V A F D Q) → Allowed S es pass m → prepares S n (S.core.key_of x) m ≡ true → m ≡ Message.Prepare n stamp x
  own_prepare actions es has x on pass (Message.Prepare j t b) allowed h =
      let p = and_parts (nat_eq j n) (S.core.same (S.core.key_of b) (S.core.key_of x)) h in
      let number = eqb-true j n p.0 in
      let key = law.index.feed.exact (S.core.key_of b) (S.core.key_of x) p.1 in
      let these = has (subst (λ i. Had (begins i) es) number allowed.0) in
      let found : on_item S.core actions (S.core.key_of x) ≡ Some b = sym (λ i. on_item S.core (these.0 i) (key i)) ∙ (λ i. on_item S.core (begun_actions (effects es) (sym number i)) (S.core.key_of b)) ∙ allowed.2 in
      let action : b ≡ x = same_some (sym found ∙ on) in
      let its : t ≡ stamp = allowed.1 ∙ (λ i. begun_stamp (effects es) (number i)) ∙ these.1 in
      λ i. Message.Prepare (number i) (its i) (action i)
    where
      same_some : {y z : A} → Some y ≡ Some z → y ≡ z
      same_some e = cc
  own_prepare actions es has x on pass _ allowed h = absurd (cc)

  these_before : (actions : List A) (e : Entry K V A F D Q B) (es : List (Entry K V A F D Q B)) → IsLegal S (e ∷ es) → HasThese actions (e ∷ es) → HasThese actions es
  these_before actions e es legal has had =
      let these = has (had_more (begins n) e es had) in
      (same_actions S law e es legal n had ∙ these.0, same_stamp S law e es legal n had ∙ these.1)

  was_cause :
      (actions : List A) (es : List (Entry K V A F D Q B)) → IsLegal S es → HasThese actions es → (x : A) → on_item S.core actions (S.core.key_of x) ≡ Some x
      → (r : Reason V F) → WasTold S es n x r → HadThisCause S es n stamp x r
  was_cause actions [] legal has x on r (k, y, lt, is, q) = absurd (omega arith)
  was_cause actions (e ∷ es) legal has x on r (suc k, y, lt, is, q) = inr (was_cause actions es legal.0 (these_before actions e es legal has) x on r (k, y, omega arith, is, q))
  was_cause actions (e ∷ es) legal has x on r (zero, y, lt, is, q) =
      let p = subst (λ z. (prepares S n (S.core.key_of x) z.message ≡ true) × (reason_of z.answer ≡ Some r)) (sym is) q in
      let older = these_before actions e es legal has in
      let message = own_prepare actions es older x on e.pass e.message legal.1.allowed p.0 in
      inl (message, prepare_cause es legal.0 x e.moment e.answer r (subst (λ m. IsAnswer S es e.moment m e.answer) message legal.1.answer) p.1)

  each_cause :
      (all : List A) (es : List (Entry K V A F D Q B)) → IsLegal S es → HasThese all es → (actions : List A) (reasons : List (Reason V F))
      → ((i : ℕ) (x : A) → slice_get actions i ≡ Some x → on_item S.core all (S.core.key_of x) ≡ Some x)
      → AreTold S es n actions reasons → HadCauses S es n stamp actions reasons
  each_cause all es legal has [] [] found told = tt
  each_cause all es legal has [] (r ∷ reasons) found told = absurd told
  each_cause all es legal has (x ∷ actions) [] found told = absurd told
  each_cause all es legal has (x ∷ actions) (r ∷ reasons) found told =
      (was_cause all es legal has x (found 0 x refl) r told.0, each_cause all es legal has actions reasons (λ i y at. found (suc i) y at) told.1)

pub cancels_are_real : {K V A F C D Q B : Type 0} (S : Service K V A F C D Q B) (law : IsServiceLawful S) → CancelsAreReal S
cancels_are_real S law e es legal n reasons is =
    let allowed = subst (λ m. Allowed S es e.pass m) is legal.1.allowed in
    elim allowed.1 [
      | inl told ↦
          inl (
          each_cause S law n (begun_stamp (effects es) n) (begun_actions (effects es) n) es legal.0 (λ had. (refl, refl)) (begun_actions (effects es) n) reasons
          (found_apart S law (begun_actions (effects es) n) (begun_apart S es legal.0 n)) told.0
          )
      | inr gone ↦ inr (gone.0, gone.2)
    ]
