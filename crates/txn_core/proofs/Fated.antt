-- What the end of a number is, and that a number stays known until its own pass has it forgotten.
use Rattle.std.proofs.Common.{◌≡◌, ◌⊎◌, inl, inr, ℕ, ◌≤◌, Bool, true, false, not, ◌&&◌, ◌||◌, nat_eq, List, [], ◌∷◌, ◌++◌, Option, if◌then◌else◌, refl, sym, ap, ◌∙◌, subst, arith}
use Rattle.std.specs.List.{list_any, list_all}
use Rattle.std.proofs.lemmas.Bool.{cond_both, and_parts, or_cases, or_right, eqb-true, eq-eqb, le-leb, lt-ltb}
use Rattle.txn_core.specs.declared.stamp.Stamp.{Stamp}
use Rattle.txn_core.specs.declared.fate.Fate.{Fate}
use Rattle.txn_core.specs.declared.reason.Reason.{Reason}
use Rattle.txn_core.specs.declared.message.Message.{Message}
use Rattle.txn_core.specs.declared.answer.Answer.{Answer}
use Rattle.txn_core.specs.declared.entry.Entry.{Entry}
use Rattle.txn_core.specs.Service.{Service, IsServiceLawful}
use Rattle.txn_core.specs.Effects.{Effect, Wrote, Prepared, Applied, Released, Finished, Forgot, Changed}
use Rattle.txn_core.specs.State.{State, step, state_after}
use Rattle.txn_core.specs.Serial.{begun_stamp, begun_actions, serial, standings, is_committed}
use Rattle.txn_core.specs.Answers.{has_record, recall_answer}
use Rattle.txn_core.specs.History.{is_begun, is_forgotten, where_so, begin_effect, decide_effect, effect_of, effect, effects, Had, begins, commits, cancels, forgets, is_own_begin, is_first, reasons_in, reasons_of, found_kept}
use Rattle.txn_core.specs.Legal.{IsAnswer, Allowed, IsLegal}
use Rattle.txn_core.specs.Driver.{entry, KnowsBegun}
use Rattle.txn_core.proofs.Basics.{at_split, true_false}
use Rattle.txn_core.proofs.Grows.{grows}
use Rattle.txn_core.proofs.LegalRuns.{legal_facts, legal_run}
use Rattle.txn_core.proofs.Readings.{is_commit, fate_read}
use Rattle.txn_core.proofs.SerialLaws.{stands_once}
use Rattle.txn_core.proofs.Prefix.{had_stays}
use Rattle.txn_core.proofs.Moves.{first_decision_stands}
use Rattle.txn_core.proofs.Records.{begun_next}

module _ {K V A F C D Q B : Type 0} (S : Service K V A F C D Q B) (law : IsServiceLawful S) where
  stands_where : (es : List (Entry K V A F D Q B)) → IsLegal S es → (n : ℕ) (b : Bool) → is_committed (effects es) n ≡ b → standings (serial (effects es)) n ≡ (if b then (begun_stamp (effects es) n, begun_actions (effects es) n) ∷ [] else [])
  stands_where es legal n b is =
      stands_once S.core law.core (effects es) (legal_run S law es legal) n
      ∙ ap (λ c. if c then (begun_stamp (effects es) n, begun_actions (effects es) n) ∷ [] else []) is

  pub committed_end : (es : List (Entry K V A F D Q B)) → IsLegal S es → (n : ℕ) (stamp : Stamp) (actions : List A) → KnowsBegun S es n stamp actions → Had (commits n) es → standings (serial (effects es)) n ≡ (stamp, actions) ∷ []
  committed_end es legal n stamp actions knows had =
      let facts = legal_facts S law es legal in
      let is : is_committed (effects es) n ≡ true = sym (fate_read S.core (effects es) facts.0 n) ∙ ap is_commit (facts.1.committed n had) in
      stands_where es legal n true is ∙ (λ j. (knows.its_stamp j, knows.its_actions j) ∷ [])

  pub cancelled_end : (es : List (Entry K V A F D Q B)) → IsLegal S es → (n : ℕ) → Had (cancels n) es → standings (serial (effects es)) n ≡ []
  cancelled_end es legal n had =
      let facts = legal_facts S law es legal in
      stands_where es legal n false (sym (fate_read S.core (effects es) facts.0 n) ∙ ap is_commit (facts.1.cancelled n had))

  -- what draws a number draws the next one
  draws_next : (es : List (Entry K V A F D Q B)) (moment : ℕ) (m : Message K V A F D Q) (a : Answer K V A F B) → IsAnswer S es moment m a → (n : ℕ) → begins n m a ≡ true → n ≡ (state_after S.core (effects es)).ledger.next
  draws_next es moment (Message.Begin token actions) a is n h = by_answer a is h
    where
      by_answer : (a : Answer K V A F B) → IsAnswer S es moment (Message.Begin token actions) a → is_begun n a ≡ true → n ≡ (state_after S.core (effects es)).ledger.next
      by_answer (Answer.Begun m stamp) is h =
          let w = state_after S.core (effects es) in
          sym (eqb-true m n h)
          ∙ (begun_next {K = K} {V = V} {F = F} {B = B} S.same_actions (list_all (λ x. S.core.there w.catalog (S.core.key_of x)) actions) (found_kept es moment token) actions w.ledger.next m moment stamp is).0
      by_answer _ is h = absurd (cc)
  draws_next es moment _ a is n h = absurd (cc)

  next_positive : (es : List (Entry K V A F D Q B)) → IsLegal S es → 1 ≤ (state_after S.core (effects es)).ledger.next
  next_positive [] legal = omega arith
  next_positive (e ∷ es) legal =
      let run = legal_run S law (e ∷ es) legal in
      let before = next_positive es legal.0 in
      let more = (grows S.core (state_after S.core (effects es)) (effect e) run.1).next in
      omega arith

  pub begun_positive : (es : List (Entry K V A F D Q B)) → IsLegal S es → (n : ℕ) → Had (begins n) es → 1 ≤ n
  begun_positive [] legal n had = absurd (cc)
  begun_positive (e ∷ es) legal n had = elim (or_cases (begins n e.message e.answer) (list_any (λ x. begins n x.message x.answer) es) had) [
    | inl now ↦ (let next = draws_next es e.moment e.message e.answer legal.1.answer n now in let some = next_positive es legal.0 in omega arith)
    | inr older ↦ begun_positive es legal.0 n older
  ]

  own_is_begun : (es : List (Entry K V A F D Q B)) (pass n : ℕ) → list_any (is_own_begin pass n) es ≡ true → Had (begins n) es
  own_is_begun [] pass n own = absurd (cc)
  own_is_begun (e ∷ es) pass n own = elim (or_cases (is_own_begin pass n e) (list_any (is_own_begin pass n) es) own) [
    | inl now ↦ ap (λ b. b || list_any (λ x. begins n x.message x.answer) es) (and_parts (nat_eq e.pass pass) (begins n e.message e.answer) now).1
    | inr older ↦ or_right (begins n e.message e.answer) (list_any (λ x. begins n x.message x.answer) es) (own_is_begun es pass n older)
  ]

  -- a number that is begun already isn't begun again
  begun_once : (e : Entry K V A F D Q B) (es : List (Entry K V A F D Q B)) → IsLegal S (e ∷ es) → (n : ℕ) → begins n e.message e.answer ≡ true → Had (begins n) es → ⊥
  begun_once e es legal n now older =
      let next = draws_next es e.moment e.message e.answer legal.1.answer n now in
      let below = (legal_facts S law es legal.0).1.begun n older in
      omega arith

  -- one pass alone drew a number
  pub one_drawer : (es : List (Entry K V A F D Q B)) → IsLegal S es → (p q n : ℕ) → list_any (is_own_begin p n) es ≡ true → list_any (is_own_begin q n) es ≡ true → p ≡ q
  one_drawer [] legal p q n own_p own_q = absurd (cc)
  one_drawer (e ∷ es) legal p q n own_p own_q =
      by_turn (or_cases (is_own_begin p n e) (list_any (is_own_begin p n) es) own_p) (or_cases (is_own_begin q n e) (list_any (is_own_begin q n) es) own_q) (λ a b. one_drawer es legal.0 p q n a b)
    where
      parts : (r : ℕ) → is_own_begin r n e ≡ true → (e.pass ≡ r) × (begins n e.message e.answer ≡ true)
      parts r now = let both = and_parts (nat_eq e.pass r) (begins n e.message e.answer) now in (eqb-true e.pass r both.0, both.1)

      by_turn : (is_own_begin p n e ≡ true) ⊎ (list_any (is_own_begin p n) es ≡ true) → (is_own_begin q n e ≡ true) ⊎ (list_any (is_own_begin q n) es ≡ true) → (list_any (is_own_begin p n) es ≡ true → list_any (is_own_begin q n) es ≡ true → p ≡ q) → p ≡ q
      by_turn (inl a) (inl b) older = sym (parts p a).0 ∙ (parts q b).0
      by_turn (inl a) (inr b) older = absurd (begun_once e es legal n (parts p a).1 (own_is_begun es q n b))
      by_turn (inr a) (inl b) older = absurd (begun_once e es legal n (parts q b).1 (own_is_begun es p n a))
      by_turn (inr a) (inr b) older = older a b

  module _ (w : State K V A C) (n : ℕ) where
    gone_where : (b : Bool) (e : Effect K A D) → (step S.core w e).ledger.gone n ≡ w.ledger.gone n → (step S.core w (where_so b e)).ledger.gone n ≡ w.ledger.gone n
    gone_where true e h = h
    gone_where false e h = refl

    gone_begin : (actions : List A) (a : Answer K V A F B) → (step S.core w (begin_effect {D = D} actions a)).ledger.gone n ≡ w.ledger.gone n
    gone_begin actions (Answer.Begun m stamp) = refl
    gone_begin actions _ = refl

    gone_decide : (m : ℕ) (a : Answer K V A F B) → (step S.core w (decide_effect {D = D} m a)).ledger.gone n ≡ w.ledger.gone n
    gone_decide m (Answer.Decided Fate.Committed true) = refl
    gone_decide m (Answer.Decided Fate.Cancelled true) = refl
    gone_decide m _ = refl

    gone_forget : (m : ℕ) (b : Bool) → (step S.core w (where_so b (Forgot m))).ledger.gone n ≡ true → (w.ledger.gone n ≡ true) ⊎ ((m ≡ n) × (b ≡ true))
    gone_forget m true h = at_split w.ledger.gone m true n (λ g. g ≡ true → (w.ledger.gone n ≡ true) ⊎ ((m ≡ n) × (true ≡ true))) (λ e _. inr (e, refl)) (λ _ k. inl k) h
    gone_forget m false h = inl h

    -- a record goes by a Forget of it
    gone_by : (moment : ℕ) (m : Message K V A F D Q) (a : Answer K V A F B) → (step S.core w (effect_of moment m a)).ledger.gone n ≡ true → (w.ledger.gone n ≡ true) ⊎ ((m ≡ Message.Forget n) × (is_forgotten a ≡ true))
    gone_by moment (Message.Forget m) a h = elim (gone_forget m (is_forgotten a) h) [ inl old ↦ inl old | inr now ↦ inr (ap (λ k. Message.Forget k) now.0, now.1) ]
    gone_by moment (Message.Write action) a h = inl (sym (gone_where _ (Wrote action moment) refl) ∙ h)
    gone_by moment (Message.Expire action) a h = inl (sym (gone_where _ (Wrote action moment) refl) ∙ h)
    gone_by moment (Message.Prepare m stamp action) a h = inl (sym (gone_where _ (Prepared m stamp action) refl) ∙ h)
    gone_by moment (Message.Apply m key) a h = inl (sym (gone_where _ (Applied m key) refl) ∙ h)
    gone_by moment (Message.Release m key) a h = inl (sym (gone_where _ (Released m key) refl) ∙ h)
    gone_by moment (Message.Begin token actions) a h = inl (sym (gone_begin actions a) ∙ h)
    gone_by moment (Message.Decide m commit reasons) a h = inl (sym (gone_decide m a) ∙ h)
    gone_by moment (Message.Done m) a h = inl (sym (gone_where _ (Finished m) refl) ∙ h)
    gone_by moment (Message.Command d) a h = inl (sym (gone_where _ (Changed d moment) refl) ∙ h)
    gone_by moment _ a h = inl h

  -- who has a record forgotten is the pass that drew its number
  forgotten_by : (es : List (Entry K V A F D Q B)) → IsLegal S es → (n : ℕ) → (state_after S.core (effects es)).ledger.gone n ≡ true → (q : ℕ) × (list_any (λ e. nat_eq e.pass q && forgets n e.message e.answer) es ≡ true) × (list_any (is_own_begin q n) es ≡ true)
  forgotten_by [] legal n gone = absurd (cc)
  forgotten_by (e ∷ es) legal n gone = by_turn (gone_by (state_after S.core (effects es)) n e.moment e.message e.answer gone) (λ h. forgotten_by es legal.0 n h)
    where
      by_turn : ((state_after S.core (effects es)).ledger.gone n ≡ true) ⊎ ((e.message ≡ Message.Forget n) × (is_forgotten e.answer ≡ true)) → ((state_after S.core (effects es)).ledger.gone n ≡ true → (q : ℕ) × (list_any (λ x. nat_eq x.pass q && forgets n x.message x.answer) es ≡ true) × (list_any (is_own_begin q n) es ≡ true)) → (q : ℕ) × (list_any (λ x. nat_eq x.pass q && forgets n x.message x.answer) (e ∷ es) ≡ true) × (list_any (is_own_begin q n) (e ∷ es) ≡ true)
      by_turn (inl old) before =
          let h = before old in
          (h.0, or_right _ (list_any (λ x. nat_eq x.pass h.0 && forgets n x.message x.answer) es) h.1, or_right (is_own_begin h.0 n e) (list_any (is_own_begin h.0 n) es) h.2)
      by_turn (inr now) before =
          let allowed = subst (λ m. Allowed S es e.pass m) now.0 legal.1.allowed in
          let its : forgets n e.message e.answer ≡ true = subst (λ m. forgets n m e.answer ≡ true) (sym now.0) (λ j. eq-eqb n n refl j && now.1 j) in (
            e.pass,
            ap (λ b. b || list_any (λ x. nat_eq x.pass e.pass && forgets n x.message x.answer) es) (λ j. eq-eqb e.pass e.pass refl j && its j),
            or_right (is_own_begin e.pass n e) (list_any (is_own_begin e.pass n) es) allowed.1,
          )

  pub own_number_is_kept : (es : List (Entry K V A F D Q B)) → IsLegal S es → (pass n : ℕ) → list_any (is_own_begin pass n) es ≡ true → list_any (λ e. nat_eq e.pass pass && forgets n e.message e.answer) es ≡ false → has_record (state_after S.core (effects es)).ledger n ≡ true
  own_number_is_kept es legal pass n own kept =
      let begun = own_is_begun es pass n own in
      let drawn = (legal_facts S law es legal).1.begun n begun in
      λ j. le-leb 1 n (begun_positive es legal n begun) j && (lt-ltb n (state_after S.core (effects es)).ledger.next drawn j && not (there ((state_after S.core (effects es)).ledger.gone n) refl j))
    where
      there : (b : Bool) → (state_after S.core (effects es)).ledger.gone n ≡ b → (state_after S.core (effects es)).ledger.gone n ≡ false
      there false is = is
      there true is =
          let by = forgotten_by es legal n is in
          let same : by.0 ≡ pass = one_drawer es legal by.0 pass n by.2 own in
          true_false (list_any (λ e. nat_eq e.pass pass && forgets n e.message e.answer) es) (subst (λ q. list_any (λ e. nat_eq e.pass q && forgets n e.message e.answer) es ≡ true) same by.1) kept

  -- the reasons of a decision
  pub reasons_decided : (es : List (Entry K V A F D Q B)) (pass moment n : ℕ) (cell : Option ℕ) (commit : Bool) (reasons : List (Reason V F)) (fate : Fate) → reasons_of (entry pass cell (Message.Decide n commit reasons) (Answer.Decided fate true) moment ∷ es) n ≡ reasons
  reasons_decided es pass moment n cell commit reasons fate = ap (λ b. if b && true then reasons else reasons_of es n) (eq-eqb n n refl)

  reasons_told : (recorded : Bool) (f g : Fate) (s t : Stamp) (xs ys : List A) (rs qs : List (Reason V F)) → Answer.Known f s xs rs ≡ recall_answer {K = K} {V = V} {A = A} {F = F} {B = B} recorded g t ys qs → qs ≡ rs
  reasons_told true f g s t xs ys rs qs e = cc
  reasons_told false f g s t xs ys rs qs e = absurd (cc)

  pub reasons_recalled : (es : List (Entry K V A F D Q B)) (moment n : ℕ) (fate : Fate) (actions : List A) (stamp : Stamp) (reasons : List (Reason V F)) → IsAnswer S es moment (Message.Recall n) (Answer.Known fate stamp actions reasons) → reasons_of es n ≡ reasons
  reasons_recalled es moment n fate actions stamp reasons is =
      let l = (state_after S.core (effects es)).ledger in
      reasons_told (has_record l n) fate (l.fate n) stamp (l.stamp n) actions (l.actions n) reasons (reasons_of es n) is

  -- one more entry, after the decision
  reasons_after : (e : Entry K V A F D Q B) (es : List (Entry K V A F D Q B)) → IsLegal S (e ∷ es) → (n : ℕ) → Had (commits n) es ⊎ Had (cancels n) es → reasons_of (e ∷ es) n ≡ reasons_of es n
  reasons_after e es legal n decided = by_message e.message e.answer legal.1.answer
    where
      by_message : (m : Message K V A F D Q) (a : Answer K V A F B) → IsAnswer S es e.moment m a → reasons_in n m a (reasons_of es n) ≡ reasons_of es n
      by_message (Message.Decide m commit reasons) a is =
          cond_both (nat_eq m n) (if is_first a then reasons else reasons_of es n) (reasons_of es n) (λ x. x ≡ reasons_of es n → (if nat_eq m n && is_first a then reasons else reasons_of es n) ≡ reasons_of es n)
          (λ same h. ap (λ b. if b && is_first a then reasons else reasons_of es n) same ∙ h)
          (λ other h. ap (λ b. if b && is_first a then reasons else reasons_of es n) other)
          (cond_both (nat_eq m n) (if is_first a then reasons else reasons_of es n) (reasons_of es n) (λ x. x ≡ reasons_of es n)
          (λ same.
          let again = first_decision_stands S law es legal.0 n decided e.moment commit reasons a (subst (λ k. IsAnswer S es e.moment (Message.Decide k commit reasons) a) (eqb-true m n same) is) in
          ap (λ b. if b then reasons else reasons_of es n) again)
          (λ other. refl))
      by_message _ a is = refl

  pub reasons_of_stay : (newer es : List (Entry K V A F D Q B)) → IsLegal S (newer ++ es) → (n : ℕ) → Had (commits n) es ⊎ Had (cancels n) es → reasons_of (newer ++ es) n ≡ reasons_of es n
  reasons_of_stay [] es legal n decided = refl
  reasons_of_stay (e ∷ newer) es legal n decided = reasons_after e (newer ++ es) legal n (still decided) ∙ reasons_of_stay newer es legal.0 n decided
    where
      still : Had (commits n) es ⊎ Had (cancels n) es → Had (commits n) (newer ++ es) ⊎ Had (cancels n) (newer ++ es)
      still (inl h) = inl (had_stays (commits n) newer es h)
      still (inr h) = inr (had_stays (cancels n) newer es h)
