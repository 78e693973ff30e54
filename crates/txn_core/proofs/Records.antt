-- What the ledger says of a number was said in the history: its Begin, its commit and its cancel.
use Rattle.std.proofs.Common.{◌≡◌, ◌⊎◌, inl, inr, ℕ, zero, suc, ◌<◌, ◌≤◌, Bool, true, false, ◌&&◌, ◌||◌, nat_eq, List, [], ◌∷◌, Option, None, Some, is_some, if◌then◌else◌, slice_get, refl, sym, ap, ◌∙◌, subst, arith}
use Rattle.std.specs.Prelude.{AllPairs, slice_index_or}
use Rattle.std.specs.List.{list_any, list_all, find}
use Rattle.std.proofs.lemmas.Bool.{cond_both, cases_lt, or_right, eq-eqb}
use Rattle.std.proofs.lemmas.Option.{slice_get_within, get_or_from_slice_get}
use Rattle.txn_core.specs.declared.stamp.Stamp.{Stamp}
use Rattle.txn_core.specs.declared.fate.Fate.{Fate}
use Rattle.txn_core.specs.declared.fate.Fate.TheVariants.{Committed, Cancelled}
use Rattle.txn_core.specs.declared.reason.Reason.{Reason}
use Rattle.txn_core.specs.declared.message.Message.{Message}
use Rattle.txn_core.specs.declared.answer.Answer.{Answer}
use Rattle.txn_core.specs.declared.entry.Entry.{Entry}
use Rattle.txn_core.specs.Service.{Service, IsServiceLawful}
use Rattle.txn_core.specs.Effects.{Effect, Wrote, Prepared, Applied, Released, Finished, Forgot, Changed}
use Rattle.txn_core.specs.State.{Ledger, State, on_item, step, state_after}
use Rattle.txn_core.specs.Serial.{begun_actions}
use Rattle.txn_core.specs.Answers.{KeptToken, begin_answer}
use Rattle.txn_core.specs.History.{is_begun, tells_commit, tells_cancel, where_so, begin_effect, decide_effect, effect_of, effects, Had, begins, commits, cancels, found_kept}
use Rattle.txn_core.specs.Legal.{IsAnswer, Allowed, IsLegal}
use Rattle.txn_core.proofs.Basics.{at_split, some_is, true_false}

-- what passes now was had
pub had_now : {K V A F D Q B : Type 0} (test : Message K V A F D Q → Answer K V A F B → Bool) (e : Entry K V A F D Q B) (es : List (Entry K V A F D Q B)) → test e.message e.answer ≡ true → Had test (e ∷ es)
had_now test e es h = ap (λ b. b || list_any (λ x. test x.message x.answer) es) h

-- a Begin that draws a number draws the next one, with its moment
pub begun_next : {K V A F B : Type 0} (same : List A → List A → Bool) (b : Bool) (o : Option (KeptToken A)) (actions : List A) (next n : ℕ) (moment : ℕ) (stamp : Stamp) → Answer.Begun n stamp ≡ begin_answer {K = K} {V = V} {F = F} {B = B} same b o actions (record { moment = moment; number = next }) → (n ≡ next) × (stamp ≡ record { moment = moment; number = next })
begun_next same false o actions next n moment stamp e = absurd (cc)
begun_next same true None actions next n moment stamp e = (cc, cc)
begun_next same true (Some kept) actions next n moment stamp e =
    cond_both (same kept.actions actions) (if is_some kept.completed then Answer.Repeat kept.number else Answer.Running kept.number) (Answer.Mismatch kept.number)
    (λ x. Answer.Begun n stamp ≡ x → (n ≡ next) × (stamp ≡ record { moment = moment; number = next }))
    (λ _. cond_both (is_some kept.completed) (Answer.Repeat kept.number) (Answer.Running kept.number) (λ x. Answer.Begun n stamp ≡ x → (n ≡ next) × (stamp ≡ record { moment = moment; number = next })) (λ _ h. absurd (cc)) (λ _ h. absurd (cc)))
    (λ _ h. absurd (cc)) e

module _ {K V A F C D Q B : Type 0} (S : Service K V A F C D Q B) where
  module _ (w : State K V A C) where
    -- what an effect leaves of the ledger, where it comes to pass and where it doesn't
    left_where : {X : Type 0} (f : Ledger A → X) (b : Bool) (e : Effect K A D) → f (step S.core w e).ledger ≡ f w.ledger → f (step S.core w (where_so b e)).ledger ≡ f w.ledger
    left_where f true e h = h
    left_where f false e h = refl

    next_decide : (n : ℕ) (a : Answer K V A F B) → (step S.core w (decide_effect {D = D} n a)).ledger.next ≡ w.ledger.next
    next_decide n (Answer.Decided Fate.Committed true) = refl
    next_decide n (Answer.Decided Fate.Cancelled true) = refl
    next_decide n _ = refl

    fate_begin : (actions : List A) (a : Answer K V A F B) → (step S.core w (begin_effect {D = D} actions a)).ledger.fate ≡ w.ledger.fate
    fate_begin actions (Answer.Begun n stamp) = refl
    fate_begin actions _ = refl

    committed_by : (m n : ℕ) (a : Answer K V A F B) → (step S.core w (decide_effect {D = D} m a)).ledger.fate n ≡ Committed → (w.ledger.fate n ≡ Committed) ⊎ ((nat_eq m n && tells_commit a) ≡ true)
    committed_by m n (Answer.Decided Fate.Committed true) =
        at_split w.ledger.fate m Committed n (λ x. x ≡ Committed → (w.ledger.fate n ≡ Committed) ⊎ ((nat_eq m n && true) ≡ true))
        (λ e _. inr (ap (λ b. b && true) (eq-eqb m n e))) (λ _ h. inl h)
    committed_by m n (Answer.Decided Fate.Cancelled true) =
        at_split w.ledger.fate m Cancelled n (λ x. x ≡ Committed → (w.ledger.fate n ≡ Committed) ⊎ ((nat_eq m n && false) ≡ true))
        (λ _ h. absurd (cc)) (λ _ h. inl h)
    committed_by m n _ = λ h. inl h

    cancelled_by : (m n : ℕ) (a : Answer K V A F B) → (step S.core w (decide_effect {D = D} m a)).ledger.fate n ≡ Cancelled → (w.ledger.fate n ≡ Cancelled) ⊎ ((nat_eq m n && tells_cancel a) ≡ true)
    cancelled_by m n (Answer.Decided Fate.Committed true) =
        at_split w.ledger.fate m Committed n (λ x. x ≡ Cancelled → (w.ledger.fate n ≡ Cancelled) ⊎ ((nat_eq m n && false) ≡ true))
        (λ _ h. absurd (cc)) (λ _ h. inl h)
    cancelled_by m n (Answer.Decided Fate.Cancelled true) =
        at_split w.ledger.fate m Cancelled n (λ x. x ≡ Cancelled → (w.ledger.fate n ≡ Cancelled) ⊎ ((nat_eq m n && true) ≡ true))
        (λ e _. inr (ap (λ b. b && true) (eq-eqb m n e))) (λ _ h. inl h)
    cancelled_by m n _ = λ h. inl h

    -- a fate is set by a Decide alone
    fates_stay : (moment : ℕ) (m : Message K V A F D Q) (a : Answer K V A F B) → ((n : ℕ) (commit : Bool) (reasons : List (Reason V F)) → m ≡ Message.Decide n commit reasons → ⊥) → (step S.core w (effect_of moment m a)).ledger.fate ≡ w.ledger.fate
    fates_stay moment (Message.Write action) a other = left_where (λ l. l.fate) _ (Wrote action moment) refl
    fates_stay moment (Message.Expire action) a other = left_where (λ l. l.fate) _ (Wrote action moment) refl
    fates_stay moment (Message.Prepare n stamp action) a other = left_where (λ l. l.fate) _ (Prepared n stamp action) refl
    fates_stay moment (Message.Apply n key) a other = left_where (λ l. l.fate) _ (Applied n key) refl
    fates_stay moment (Message.Release n key) a other = left_where (λ l. l.fate) _ (Released n key) refl
    fates_stay moment (Message.Begin token actions) a other = fate_begin actions a
    fates_stay moment (Message.Decide n commit reasons) a other = absurd (other n commit reasons refl)
    fates_stay moment (Message.Done n) a other = left_where (λ l. l.fate) _ (Finished n) refl
    fates_stay moment (Message.Forget n) a other = left_where (λ l. l.fate) _ (Forgot n) refl
    fates_stay moment (Message.Command d) a other = left_where (λ l. l.fate) _ (Changed d moment) refl
    fates_stay moment _ a other = refl

  -- a number that is drawn was begun
  drawn_by : (es : List (Entry K V A F D Q B)) (moment : ℕ) (m : Message K V A F D Q) (a : Answer K V A F B) → IsAnswer S es moment m a → (n : ℕ) → n < (step S.core (state_after S.core (effects es)) (effect_of moment m a)).ledger.next → (n < (state_after S.core (effects es)).ledger.next) ⊎ (begins n m a ≡ true)
  drawn_by es moment (Message.Begin token actions) a is n lt = by_answer a is lt
    where
      draws : (next m : ℕ) → m ≡ next → n < suc next → (n < next) ⊎ (next ≤ n) → (n < next) ⊎ (nat_eq m n ≡ true)
      draws next m same lt (inl less) = inl less
      draws next m same lt (inr le) = inr (let e : m ≡ n = omega arith in eq-eqb m n e)

      by_answer : (a : Answer K V A F B) → IsAnswer S es moment (Message.Begin token actions) a → n < (step S.core (state_after S.core (effects es)) (begin_effect {D = D} actions a)).ledger.next → (n < (state_after S.core (effects es)).ledger.next) ⊎ (is_begun n a ≡ true)
      by_answer (Answer.Begun m stamp) is lt =
          let w = state_after S.core (effects es) in
          let e = begun_next {K = K} {V = V} {F = F} {B = B} S.same_actions (list_all (λ x. S.core.there w.catalog (S.core.key_of x)) actions) (found_kept es moment token) actions w.ledger.next m moment stamp is in
          draws w.ledger.next m e.0 lt (cases_lt n w.ledger.next)
      by_answer _ is lt = inl lt
  drawn_by es moment (Message.Write action) a is n lt = inl (subst (λ x. n < x) (left_where (state_after S.core (effects es)) (λ l. l.next) _ (Wrote action moment) refl) lt)
  drawn_by es moment (Message.Expire action) a is n lt = inl (subst (λ x. n < x) (left_where (state_after S.core (effects es)) (λ l. l.next) _ (Wrote action moment) refl) lt)
  drawn_by es moment (Message.Prepare k stamp action) a is n lt = inl (subst (λ x. n < x) (left_where (state_after S.core (effects es)) (λ l. l.next) _ (Prepared k stamp action) refl) lt)
  drawn_by es moment (Message.Apply k key) a is n lt = inl (subst (λ x. n < x) (left_where (state_after S.core (effects es)) (λ l. l.next) _ (Applied k key) refl) lt)
  drawn_by es moment (Message.Release k key) a is n lt = inl (subst (λ x. n < x) (left_where (state_after S.core (effects es)) (λ l. l.next) _ (Released k key) refl) lt)
  drawn_by es moment (Message.Decide k commit reasons) a is n lt = inl (subst (λ x. n < x) (next_decide (state_after S.core (effects es)) k a) lt)
  drawn_by es moment (Message.Done k) a is n lt = inl (subst (λ x. n < x) (left_where (state_after S.core (effects es)) (λ l. l.next) _ (Finished k) refl) lt)
  drawn_by es moment (Message.Forget k) a is n lt = inl (subst (λ x. n < x) (left_where (state_after S.core (effects es)) (λ l. l.next) _ (Forgot k) refl) lt)
  drawn_by es moment (Message.Command d) a is n lt = inl (subst (λ x. n < x) (left_where (state_after S.core (effects es)) (λ l. l.next) _ (Changed d moment) refl) lt)
  drawn_by es moment _ a is n lt = inl lt

  pub was_begun : (es : List (Entry K V A F D Q B)) → IsLegal S es → (n : ℕ) → 1 ≤ n → n < (state_after S.core (effects es)).ledger.next → Had (begins n) es
  was_begun [] legal n ge lt = absurd (omega arith)
  was_begun (e ∷ es) legal n ge lt = elim (drawn_by es e.moment e.message e.answer legal.1.answer n lt) [
    | inl less ↦ or_right (begins n e.message e.answer) (list_any (λ x. begins n x.message x.answer) es) (was_begun es legal.0 n ge less)
    | inr now ↦ had_now (begins n) e es now
  ]

  committed_now : (w : State K V A C) (moment : ℕ) (m : Message K V A F D Q) (a : Answer K V A F B) (n : ℕ) → (step S.core w (effect_of moment m a)).ledger.fate n ≡ Committed → (w.ledger.fate n ≡ Committed) ⊎ (commits n m a ≡ true)
  committed_now w moment (Message.Decide m commit reasons) a n h = committed_by w m n a h
  committed_now w moment m a n h = inl (sym (λ j. fates_stay w moment m a (λ k commit reasons e. cc) j n) ∙ h)

  cancelled_now : (w : State K V A C) (moment : ℕ) (m : Message K V A F D Q) (a : Answer K V A F B) (n : ℕ) → (step S.core w (effect_of moment m a)).ledger.fate n ≡ Cancelled → (w.ledger.fate n ≡ Cancelled) ⊎ (cancels n m a ≡ true)
  cancelled_now w moment (Message.Decide m commit reasons) a n h = cancelled_by w m n a h
  cancelled_now w moment m a n h = inl (sym (λ j. fates_stay w moment m a (λ k commit reasons e. cc) j n) ∙ h)

  pub was_committed : (es : List (Entry K V A F D Q B)) (n : ℕ) → (state_after S.core (effects es)).ledger.fate n ≡ Committed → Had (commits n) es
  was_committed [] n h = absurd (cc)
  was_committed (e ∷ es) n h = elim (committed_now (state_after S.core (effects es)) e.moment e.message e.answer n h) [
    | inl older ↦ or_right (commits n e.message e.answer) (list_any (λ x. commits n x.message x.answer) es) (was_committed es n older)
    | inr now ↦ had_now (commits n) e es now
  ]

  pub was_cancelled : (es : List (Entry K V A F D Q B)) (n : ℕ) → (state_after S.core (effects es)).ledger.fate n ≡ Cancelled → Had (cancels n) es
  was_cancelled [] n h = absurd (cc)
  was_cancelled (e ∷ es) n h = elim (cancelled_now (state_after S.core (effects es)) e.moment e.message e.answer n h) [
    | inl older ↦ or_right (cancels n e.message e.answer) (list_any (λ x. cancels n x.message x.answer) es) (was_cancelled es n older)
    | inr now ↦ had_now (cancels n) e es now
  ]

  abbrev AreApart : List A → Type 0
  AreApart actions = AllPairs (λ x y. S.core.same (S.core.key_of x) (S.core.key_of y) ≡ false) actions

  -- the actions of a number after one more entry: those before it, or those of its Begin
  begun_by : (xs : List (Effect K A D)) (n moment : ℕ) (m : Message K V A F D Q) (a : Answer K V A F B) (P : List A → Type 0) → P (begun_actions xs n) → ((token : Option (List ℕ)) (actions : List A) → m ≡ Message.Begin token actions → P actions) → P (begun_actions (effect_of moment m a ∷ xs) n)
  begun_by xs n moment m a P old new = by_message m new
    where
      where_it : (b : Bool) (e : Effect K A D) → begun_actions (e ∷ xs) n ≡ begun_actions xs n → P (begun_actions (where_so b e ∷ xs) n)
      where_it true e same = subst P (sym same) old
      where_it false e same = old

      decide : (k : ℕ) (a : Answer K V A F B) → P (begun_actions (decide_effect {D = D} k a ∷ xs) n)
      decide k (Answer.Decided Fate.Committed true) = old
      decide k (Answer.Decided Fate.Cancelled true) = old
      decide k _ = old

      begin : (actions : List A) → P actions → (a : Answer K V A F B) → P (begun_actions (begin_effect {D = D} actions a ∷ xs) n)
      begin actions its (Answer.Begun k stamp) = cond_both (nat_eq stamp.number n) actions (begun_actions xs n) P (λ _. its) (λ _. old)
      begin actions its _ = old

      by_message : (m : Message K V A F D Q) → ((token : Option (List ℕ)) (actions : List A) → m ≡ Message.Begin token actions → P actions) → P (begun_actions (effect_of moment m a ∷ xs) n)
      by_message (Message.Begin token actions) new = begin actions (new token actions refl) a
      by_message (Message.Write action) new = where_it _ (Wrote action moment) refl
      by_message (Message.Expire action) new = where_it _ (Wrote action moment) refl
      by_message (Message.Prepare k stamp action) new = where_it _ (Prepared k stamp action) refl
      by_message (Message.Apply k key) new = where_it _ (Applied k key) refl
      by_message (Message.Release k key) new = where_it _ (Released k key) refl
      by_message (Message.Decide k commit reasons) new = decide k a
      by_message (Message.Done k) new = where_it _ (Finished k) refl
      by_message (Message.Forget k) new = where_it _ (Forgot k) refl
      by_message (Message.Command d) new = where_it _ (Changed d moment) refl
      by_message _ new = old

  -- the actions of a begun number are on items that differ
  pub begun_apart : (es : List (Entry K V A F D Q B)) → IsLegal S es → (n : ℕ) → AreApart (begun_actions (effects es) n)
  begun_apart [] legal n = λ i j d lt below. absurd (omega arith)
  begun_apart (e ∷ es) legal n =
      begun_by (effects es) n e.moment e.message e.answer AreApart (begun_apart es legal.0 n)
      (λ token actions is. (subst (λ m. Allowed S es e.pass m) is legal.1.allowed).2)

  -- among actions on items that differ, each one is found by its item
  pub found_apart : IsServiceLawful S → (actions : List A) → AreApart actions → (i : ℕ) (x : A) → slice_get actions i ≡ Some x → on_item S.core actions (S.core.key_of x) ≡ Some x
  found_apart law [] apart i x at = absurd (cc)
  found_apart law (y ∷ ys) apart zero x at =
      let same : y ≡ x = some_is y x at in
      cond_both (S.core.same (S.core.key_of y) (S.core.key_of x)) (Some y) (find (λ a. S.core.same (S.core.key_of a) (S.core.key_of x)) ys) (λ o. o ≡ Some x)
      (λ _. at)
      (λ e. true_false (S.core.same (S.core.key_of y) (S.core.key_of x)) (subst (λ z. S.core.same (S.core.key_of y) (S.core.key_of z) ≡ true) same (law.core.itself (S.core.key_of y))) e)
  found_apart law (y ∷ ys) apart (suc i) x at =
      let below = slice_get_within ys i x at in
      let is : slice_index_or ys i x ≡ x = get_or_from_slice_get ys i x x at in
      let differ : S.core.same (S.core.key_of y) (S.core.key_of x) ≡ false = ap (λ z. S.core.same (S.core.key_of y) (S.core.key_of z)) (sym is) ∙ apart 0 (suc i) x (omega arith) (omega arith) in
      cond_both (S.core.same (S.core.key_of y) (S.core.key_of x)) (Some y) (find (λ a. S.core.same (S.core.key_of a) (S.core.key_of x)) ys) (λ o. o ≡ Some x)
      (λ e. true_false (S.core.same (S.core.key_of y) (S.core.key_of x)) e differ)
      (λ _. found_apart law ys (λ j k d lt within. apart (suc j) (suc k) d (omega arith) (omega arith)) i x at)
