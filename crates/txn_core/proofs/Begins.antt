-- What a Begin's answer says: a Stale, a Repeat, and a new number after the life of a token.
use Rattle.std.proofs.Common.{◌≡◌, ◌⊎◌, inl, inr, ℕ, Bool, true, false, not, ◌&&◌, ◌||◌, nat_eq, List, [], ◌∷◌, ◌++◌, Option, None, Some, is_some, if◌then◌else◌, refl, sym, ap, ◌∙◌, subst, arith}
use Rattle.std.specs.List.{list_any, list_all}
use Rattle.std.specs.Str.{bytes_eq}
use Rattle.std.proofs.lemmas.Bool.{cond_both, and_parts, or_cases, eqb-true, eq-eqb}
use Rattle.txn_core.specs.declared.stamp.Stamp.{Stamp}
use Rattle.txn_core.specs.declared.fate.Fate.{Fate}
use Rattle.txn_core.specs.declared.fate.Fate.TheVariants.{Undecided, Committed, Cancelled, Gone}
use Rattle.txn_core.specs.declared.message.Message.{Message}
use Rattle.txn_core.specs.declared.answer.Answer.{Answer}
use Rattle.txn_core.specs.declared.entry.Entry.{Entry}
use Rattle.txn_core.specs.Service.{Service, IsServiceLawful}
use Rattle.txn_core.specs.State.{state_after}
use Rattle.txn_core.specs.Serial.{begun_actions}
use Rattle.txn_core.specs.Answers.{KeptToken, begin_answer, has_record, decide_answer}
use Rattle.txn_core.specs.Effects.{Effect}
use Rattle.txn_core.specs.History.{is_first, tells_cancel, is_finished, begins, commits, cancels, finishes, effect_of, effect, effects, Had, is_over, unless_over, completed, freed, begun_with, kept_after, kept, found_kept}
use Rattle.txn_core.specs.Legal.{IsAnswer, IsLegal, Allowed}
use Rattle.txn_core.specs.Tokens.{draws, cancels_first, first_done, LivesOn}
use Rattle.txn_core.specs.Laws.{catalog_by, DrawsNew, StaleBeginsAreReal, IsRepeat, RepeatsAreDone}
use Rattle.txn_core.proofs.Basics.{true_false}
use Rattle.txn_core.proofs.Kept.{good}
use Rattle.txn_core.proofs.LegalRuns.{legal_facts}
use Rattle.txn_core.proofs.Records.{had_now, begun_next, was_cancelled}
use Rattle.txn_core.proofs.Prefix.{had_more, same_actions}
use Rattle.txn_core.proofs.Writes.{catalog_is_serial}
use Rattle.txn_core.proofs.TokenLife.{token_of, started, lives, eq_comm}

not_all : {X : Type 0} (p : X → Bool) (xs : List X) → list_all p xs ≡ false → list_any (λ x. not (p x)) xs ≡ true
not_all p [] e = absurd (cc)
not_all p (x ∷ xs) e = go (p x) e (λ h. not_all p xs h)
  where
    go : (b : Bool) → (b && list_all p xs) ≡ false → (list_all p xs ≡ false → list_any (λ x. not (p x)) xs ≡ true)
        → (not b || list_any (λ x. not (p x)) xs) ≡ true
    go true h rest = rest h
    go false h rest = refl

-- a Repeat is of the kept number, whose actions are the same and which is completed
record RepeatsKept {A : Type 0} (same : List A → List A → Bool) (o : Option (KeptToken A)) (actions : List A) (n : ℕ) : Type 0 where
  pub token : KeptToken A
  pub is : o ≡ Some token
  pub its : token.number ≡ n
  pub alike : same token.actions actions ≡ true
  pub completed : is_some token.completed ≡ true

module _ {K V A F B : Type 0} where
  stale_only : (same : List A → List A → Bool) (b : Bool) (o : Option (KeptToken A)) (actions : List A) (stamp : Stamp)
      → begin_answer {K = K} {V = V} {F = F} {B = B} same b o actions stamp ≡ Answer.Stale → b ≡ false
  stale_only same false o actions stamp e = refl
  stale_only same true None actions stamp e = absurd (cc)
  stale_only same true (Some k) actions stamp e =
      cond_both (same k.actions actions) (if is_some k.completed then Answer.Repeat k.number else Answer.Running k.number) (Answer.Mismatch k.number)
      (λ (x : Answer K V A F B). x ≡ Answer.Stale → true ≡ false)
      (λ _. cond_both (is_some k.completed) (Answer.Repeat k.number) (Answer.Running k.number) (λ (x : Answer K V A F B). x ≡ Answer.Stale → true ≡ false) (λ _ h. absurd (cc)) (λ _ h. absurd (cc)))
      (λ _ h. absurd (cc)) e

  repeats_kept : (same : List A → List A → Bool) (b : Bool) (o : Option (KeptToken A)) (actions : List A) (stamp : Stamp) (n : ℕ)
      → begin_answer {K = K} {V = V} {F = F} {B = B} same b o actions stamp ≡ Answer.Repeat n → RepeatsKept same o actions n
  repeats_kept same false o actions stamp n e = absurd (cc)
  repeats_kept same true None actions stamp n e = absurd (cc)
  repeats_kept same true (Some k) actions stamp n e =
      cond_both (same k.actions actions) (if is_some k.completed then Answer.Repeat k.number else Answer.Running k.number) (Answer.Mismatch k.number)
      (λ (x : Answer K V A F B). x ≡ Answer.Repeat n → RepeatsKept same (Some k) actions n)
      (λ s. cond_both (is_some k.completed) (Answer.Repeat k.number) (Answer.Running k.number) (λ (x : Answer K V A F B). x ≡ Answer.Repeat n → RepeatsKept same (Some k) actions n)
      (λ c h. record { token = k; is = refl; its = cc; alike = s; completed = c }) (λ _ h. absurd (cc)))
      (λ _ h. absurd (cc)) e

  -- a kept token after a Begin is the one that it drew, or the one before
  abbrev IsBegunOr : Answer K V A F B → List A → Option (KeptToken A) → KeptToken A → Type 0
  IsBegunOr a actions old k =
      ((stamp : Stamp) × (a ≡ Answer.Begun k.number stamp) × (k ≡ token_of k.number actions None)) ⊎ (old ≡ Some k)

  begun_or : (token : Option (List ℕ)) (t : List ℕ) (actions : List A) (a : Answer K V A F B) (old : Option (KeptToken A)) (k : KeptToken A)
      → begun_with token t actions a old ≡ Some k → IsBegunOr a actions old k
  begun_or None t actions a old k e = inr e
  begun_or (Some u) t actions (Answer.Begun m stamp) old k e =
      cond_both (bytes_eq u t) (Some (token_of m actions None)) old (λ x. x ≡ Some k → IsBegunOr (Answer.Begun m stamp) actions old k)
      (λ _ h. let is : token_of m actions None ≡ k = cc in inl (stamp, ap (λ (y : KeptToken A). Answer.Begun y.number stamp) is, sym is ∙ ap (λ (y : KeptToken A). token_of y.number actions None) is))
      (λ _ h. inr h) e
  begun_or (Some u) t actions _ old k e = inr e

unless_some : {A : Type 0} (moment : ℕ) (o : Option (KeptToken A)) (k : KeptToken A) → unless_over moment o ≡ Some k → o ≡ Some k
unless_some moment None k e = absurd (cc)
unless_some moment (Some x) k e = cond_both (is_over x.completed moment) None (Some x) (λ o. o ≡ Some k → Some x ≡ Some k) (λ _ h. absurd (cc)) (λ _ h. h) e

module _ {K V A F C D Q B : Type 0} (S : Service K V A F C D Q B) (law : IsServiceLawful S) where
  pub stale_begins_are_real : StaleBeginsAreReal S
  stale_begins_are_real es moment token actions is =
      let w = state_after S.core (effects es) in
      let gone = stale_only {K = K} {V = V} {F = F} {B = B} S.same_actions (list_all (λ x. S.core.there w.catalog (S.core.key_of x)) actions) (found_kept es moment token) actions (record { moment = moment; number = w.ledger.next }) (sym is) in
      not_all (λ x. S.core.there (catalog_by S es) (S.core.key_of x)) actions
      (sym (λ j. list_all (λ x. S.core.there (catalog_is_serial S law es j) (S.core.key_of x)) actions) ∙ gone)

  -- where nothing is kept a Begin draws a new number
  draws_new : (es : List (Entry K V A F D Q B)) → IsLegal S es → (moment : ℕ) (token : Option (List ℕ)) (actions : List A) (a : Answer K V A F B)
      → found_kept es moment token ≡ None → IsAnswer S es moment (Message.Begin token actions) a → DrawsNew S es a
  draws_new es legal moment token actions a none is =
      let w = state_after S.core (effects es) in
      let stamp : Stamp = record { moment = moment; number = w.ledger.next } in
      let there = list_all (λ x. S.core.there w.catalog (S.core.key_of x)) actions in
      subst (λ x. DrawsNew S es x) (sym (is ∙ ap (λ o. begin_answer S.same_actions there o actions stamp) none)) (by_table there stamp)
    where
      by_table : (b : Bool) (stamp : Stamp) → DrawsNew S es (begin_answer S.same_actions b None actions (record stamp { number = (state_after S.core (effects es)).ledger.next }))
      by_table false stamp = inl refl
      by_table true stamp =
          let w = state_after S.core (effects es) in
          inr (w.ledger.next, record stamp { number = w.ledger.next }, refl, λ had. let lt = (legal_facts S law es legal).1.begun w.ledger.next had in omega arith)

  module _ (since older : List (Entry K V A F D Q B)) (start : Entry K V A F D Q B) (t : List ℕ) (n : ℕ) (legal : IsLegal S (since ++ (start ∷ older))) (on : LivesOn n since) where
    pub time_ends_life : (drawn : draws t n start.message start.answer ≡ true) → (moment : ℕ) (actions : List A) (a : Answer K V A F B) → is_over (first_done since n) moment ≡ true
        → IsAnswer S (since ++ (start ∷ older)) moment (Message.Begin (Some t) actions) a → DrawsNew S (since ++ (start ∷ older)) a
    time_ends_life drawn moment actions a over is =
        let s = started t n start older drawn in
        let living = lives S t n s.0 since (start ∷ older) s.1 legal on in
        draws_new (since ++ (start ∷ older)) legal moment (Some t) actions a
        (ap (λ o. unless_over moment o) living ∙ ap (λ b. if b then None else Some (token_of n s.0 (first_done since n))) over) is

    pub cancel_ends_life : (drawn : draws t n start.message start.answer ≡ true) → (cancel : Entry K V A F D Q B) → IsLegal S (cancel ∷ (since ++ (start ∷ older)))
        → cancels_first n cancel.message cancel.answer ≡ true → (moment : ℕ) (actions : List A) (a : Answer K V A F B)
        → IsAnswer S (cancel ∷ (since ++ (start ∷ older))) moment (Message.Begin (Some t) actions) a → DrawsNew S (cancel ∷ (since ++ (start ∷ older))) a
    cancel_ends_life drawn cancel whole ends moment actions a is =
        let s = started t n start older drawn in
        let living = lives S t n s.0 since (start ∷ older) s.1 legal on in
        draws_new (cancel ∷ (since ++ (start ∷ older))) whole moment (Some t) actions a
        (ap (λ o. unless_over moment o) (freed_by cancel.message cancel.answer ends living)) is
      where
        freed_by : (m : Message K V A F D Q) (x : Answer K V A F B) → cancels_first n m x ≡ true
            → {actions' : List A} {d : Option ℕ} → kept (since ++ (start ∷ older)) t ≡ Some (token_of n actions' d)
            → kept_after cancel.moment m x t (kept (since ++ (start ∷ older)) t) ≡ None
        freed_by (Message.Decide m commit reasons) x e {actions'} {d} living =
            let p = and_parts (nat_eq m n) (is_first x && tells_cancel x) e in
            ap (λ b. if b then freed m (kept (since ++ (start ∷ older)) t) else kept (since ++ (start ∷ older)) t) p.1
            ∙ ap (λ o. freed m o) living
            ∙ ap (λ b. if b then None else Some (token_of n actions' d)) (eq_comm n m ∙ p.0)
        freed_by _ x e living = absurd (cc)

  -- what the history says of a number that a token is kept with
  record IsKept (es : List (Entry K V A F D Q B)) (k : KeptToken A) : Type 0 where
    pub begun : Had (begins k.number) es
    pub actions : begun_actions (effects es) k.number ≡ k.actions
    pub done : is_some k.completed ≡ true → Had (finishes k.number) es
    pub live : Had (cancels k.number) es → ⊥

  kept_on : (e : Entry K V A F D Q B) (es : List (Entry K V A F D Q B)) → IsLegal S (e ∷ es) → (k : KeptToken A)
      → (cancels k.number e.message e.answer ≡ true → ⊥) → IsKept es k → IsKept (e ∷ es) k
  kept_on e es legal k away h =
      record {
        begun = had_more (begins k.number) e es h.begun;
        actions = sym (same_actions S law e es legal k.number h.begun) ∙ h.actions;
        done = λ c. had_more (finishes k.number) e es (h.done c);
        live = λ had. elim (or_cases (cancels k.number e.message e.answer) (list_any (λ x. cancels k.number x.message x.answer) es) had) [
          | inl now ↦ away now
          | inr before ↦ h.live before
        ];
      }

  -- a Decide that tells a cancel of a number, and isn't the first, comes after one that was
  told_before : (es : List (Entry K V A F D Q B)) → (m : ℕ) (commit : Bool) (a : Answer K V A F B)
      → a ≡ decide_answer (has_record (state_after S.core (effects es)).ledger m) ((state_after S.core (effects es)).ledger.fate m) commit
      → is_first a ≡ false → tells_cancel a ≡ true → Had (cancels m) es
  told_before es m commit a is later told =
      let l = (state_after S.core (effects es)).ledger in
      was_cancelled S es m (by_fate (has_record l m) (l.fate m) commit (sym (ap (λ x. is_first x) is) ∙ later) (sym (ap (λ x. tells_cancel x) is) ∙ told))
    where
      by_fate : (b : Bool) (fate : Fate) (c : Bool) → is_first {K = K} {V = V} {A = A} {F = F} {B = B} (decide_answer b fate c) ≡ false
          → tells_cancel {K = K} {V = V} {A = A} {F = F} {B = B} (decide_answer b fate c) ≡ true → fate ≡ Cancelled
      by_fate false fate c e h = absurd (cc)
      by_fate true Undecided true e h = absurd (cc)
      by_fate true Undecided false e h = absurd (cc)
      by_fate true Committed c e h = absurd (cc)
      by_fate true Cancelled c e h = refl
      by_fate true Gone c e h = absurd (cc)

  -- how a token comes to be kept with this after an entry: as it was, begun by it, or completed by it
  abbrev IsKeptBy : List (Entry K V A F D Q B) → Message K V A F D Q → Answer K V A F B → Option (KeptToken A) → KeptToken A → Type 0
  IsKeptBy es m a old k =
      ((old ≡ Some k) × (cancels k.number m a ≡ true → Had (cancels k.number) es))
      ⊎ (((token : Option (List ℕ)) × (actions : List A) × (stamp : Stamp) × (m ≡ Message.Begin token actions) × (a ≡ Answer.Begun k.number stamp) × (k ≡ token_of k.number actions None))
      ⊎ ((j : KeptToken A) × (old ≡ Some j) × (k.number ≡ j.number) × (k.actions ≡ j.actions) × (finishes k.number m a ≡ true) × (cancels k.number m a ≡ false)))

  kept_by : (es : List (Entry K V A F D Q B)) (moment : ℕ) (m : Message K V A F D Q) (a : Answer K V A F B) (t : List ℕ) (old : Option (KeptToken A)) (k : KeptToken A)
      → IsAnswer S es moment m a → kept_after moment m a t old ≡ Some k → IsKeptBy es m a old k
  kept_by es moment (Message.Begin token actions) a t old k answer is =
      elim (begun_or token t actions a (unless_over moment old) k is) [
        | inl p ↦ inr (inl (token, actions, p.0, refl, p.1, p.2))
        | inr h ↦ inl (unless_some moment old k h, λ c. absurd (cc))
      ]
  kept_by es moment (Message.Done m) a t old k answer is = by_done (is_finished a) refl old is
    where
      by_done : (b : Bool) → is_finished a ≡ b → (o : Option (KeptToken A)) → (if b then completed m moment o else o) ≡ Some k → IsKeptBy es (Message.Done m) a o k
      by_done false e o h = inl (h, λ c. absurd (cc))
      by_done true e None h = absurd (cc)
      by_done true e (Some j) h =
          cond_both (nat_eq j.number m && not (is_some j.completed)) (Some (record j { completed = Some moment })) (Some j) (λ o. o ≡ Some k → IsKeptBy es (Message.Done m) a (Some j) k)
          (λ c g.
          let same : record j { completed = Some moment } ≡ k = cc in
          let its = and_parts (nat_eq j.number m) (not (is_some j.completed)) c in
          inr (inr (j, refl, sym (ap (λ (x : KeptToken A). x.number) same), sym (ap (λ (x : KeptToken A). x.actions) same), subst (λ (x : KeptToken A). (nat_eq m x.number && is_finished a) ≡ true) same ((λ i. (eq_comm m j.number ∙ its.0) i && e i)), refl)))
          (λ _ g. inl (g, λ c. absurd (cc))) h
  kept_by es moment (Message.Decide m commit reasons) a t old k answer is = by_cancel (is_first a && tells_cancel a) refl old is
    where
      by_first : (b : Bool) → is_first a ≡ b → (is_first a && tells_cancel a) ≡ false → tells_cancel a ≡ true → Had (cancels m) es
      by_first true e off told = true_false (is_first a && tells_cancel a) ((λ i. e i && told i)) off
      by_first false e off told = told_before es m commit a answer e told

      by_cancel : (b : Bool) → (is_first a && tells_cancel a) ≡ b → (o : Option (KeptToken A)) → (if b then freed m o else o) ≡ Some k → IsKeptBy es (Message.Decide m commit reasons) a o k
      by_cancel false e o h =
          inl (h, λ c. let p = and_parts (nat_eq m k.number) (tells_cancel a) c in subst (λ n. Had (cancels n) es) (eqb-true m k.number p.0) (by_first (is_first a) refl e p.1))
      by_cancel true e None h = absurd (cc)
      by_cancel true e (Some j) h =
          cond_both (nat_eq j.number m) None (Some j) (λ o. o ≡ Some k → IsKeptBy es (Message.Decide m commit reasons) a (Some j) k)
          (λ _ g. absurd (cc))
          (λ apart g. inl (
            g,
            λ c.
                let p = and_parts (nat_eq m k.number) (tells_cancel a) c in
                let same : j ≡ k = cc in
                true_false (nat_eq j.number m) (ap (λ (x : KeptToken A). nat_eq x.number m) same ∙ eq_comm k.number m ∙ p.0) apart,
          )) h
  kept_by es moment (Message.Forget m) a t old k answer is = inl (is, λ c. absurd (cc))
  kept_by es moment _ a t old k answer is = inl (is, λ c. absurd (cc))

  -- a Begin that drew the number begins what is kept
  newly_kept :
      (e : Entry K V A F D Q B) (es : List (Entry K V A F D Q B)) → IsLegal S (e ∷ es) → (k : KeptToken A) (token : Option (List ℕ)) (actions : List A) (stamp : Stamp)
      → e.message ≡ Message.Begin token actions → e.answer ≡ Answer.Begun k.number stamp → k ≡ token_of k.number actions None → IsKept (e ∷ es) k
  newly_kept e es legal k token actions stamp asked told is =
      let w = state_after S.core (effects es) in
      let answer = subst (λ m. IsAnswer S es e.moment m e.answer) asked legal.1.answer in
      let next = begun_next {K = K} {V = V} {F = F} {B = B} S.same_actions (list_all (λ x. S.core.there w.catalog (S.core.key_of x)) actions) (found_kept es e.moment token) actions w.ledger.next k.number e.moment stamp (sym told ∙ answer) in
      let effect_is : effect e ≡ Effect.Begun stamp actions = (λ j. effect_of e.moment (asked j) e.answer) ∙ (λ j. effect_of {Q = Q} e.moment (Message.Begin token actions) (told j)) in
      record {
        begun = had_now (begins k.number) e es ((λ j. begins k.number (asked j) e.answer) ∙ (λ j. begins {D = D} {Q = Q} k.number (Message.Begin token actions) (told j)) ∙ eq-eqb k.number k.number refl);
        actions =
            (λ j. begun_actions (effect_is j ∷ effects es) k.number)
            ∙ ap (λ b. if b then actions else begun_actions (effects es) k.number) (eq-eqb stamp.number k.number (ap (λ (s : Stamp). s.number) next.1 ∙ sym next.0))
            ∙ sym (ap (λ (x : KeptToken A). x.actions) is);
        done = λ c. absurd (not_done (ap (λ (x : KeptToken A). is_some x.completed) is) c);
        live = λ had. elim (or_cases (cancels k.number e.message e.answer) (list_any (λ x. cancels k.number x.message x.answer) es) had) [
          | inl now ↦ absurd (true_false (cancels k.number e.message e.answer) now (ap (λ m. cancels k.number m e.answer) asked))
          | inr before ↦
              let facts = legal_facts S law es legal.0 in
              let same = next.0 in
              let cancelled = facts.1.cancelled k.number before in
              let fresh = (good S.core law.core (effects es) facts.0).fresh k.number (omega arith) in
              absurd (cc)
        ];
      }
    where
      not_done : is_some k.completed ≡ false → is_some k.completed ≡ true → ⊥
      not_done e h = true_false (is_some k.completed) h e

  kept_is : (es : List (Entry K V A F D Q B)) → IsLegal S es → (t : List ℕ) (k : KeptToken A) → kept es t ≡ Some k → IsKept es k
  kept_is [] legal t k is = absurd (cc)
  kept_is (e ∷ es) legal t k is = by_how (kept_by es e.moment e.message e.answer t (kept es t) k legal.1.answer is) (λ j h. kept_is es legal.0 t j h)
    where
      by_how : IsKeptBy es e.message e.answer (kept es t) k → ((j : KeptToken A) → kept es t ≡ Some j → IsKept es j) → IsKept (e ∷ es) k
      by_how (inl (before, told)) older = let h = older k before in kept_on e es legal k (λ now. h.live (told now)) h
      by_how (inr (inl (token, actions, stamp, asked, answer, its))) older = newly_kept e es legal k token actions stamp asked answer its
      by_how (inr (inr (j, before, number, actions, done, away))) older =
          let h = older j before in
          let on = kept_on e es legal j (λ now. true_false (cancels k.number e.message e.answer) (subst (λ n. cancels n e.message e.answer ≡ true) (sym number) now) away) h in
          record {
            begun = subst (λ n. Had (begins n) (e ∷ es)) (sym number) on.begun;
            actions = (λ i. begun_actions (effects (e ∷ es)) (number i)) ∙ on.actions ∙ sym actions;
            done = λ c. had_now (finishes k.number) e es done;
            live = λ had. on.live (subst (λ n. Had (cancels n) (e ∷ es)) number had);
          }

  -- a Done comes after a decision
  finish_settled : (es : List (Entry K V A F D Q B)) → IsLegal S es → (n : ℕ) → Had (finishes n) es → Had (commits n) es ⊎ Had (cancels n) es
  finish_settled [] legal n h = absurd (cc)
  finish_settled (e ∷ es) legal n h =
      elim (or_cases (finishes n e.message e.answer) (list_any (λ x. finishes n x.message x.answer) es) h) [
        | inl now ↦ more (by_message e.message e.answer legal.1.allowed now)
        | inr before ↦ more (finish_settled es legal.0 n before)
      ]
    where
      more : Had (commits n) es ⊎ Had (cancels n) es → Had (commits n) (e ∷ es) ⊎ Had (cancels n) (e ∷ es)
      more (inl k) = inl (had_more (commits n) e es k)
      more (inr k) = inr (had_more (cancels n) e es k)

      by_message : (m : Message K V A F D Q) (a : Answer K V A F B) → Allowed S es e.pass m → finishes n m a ≡ true → Had (commits n) es ⊎ Had (cancels n) es
      by_message (Message.Done m) a allowed k =
          let same = eqb-true m n (and_parts (nat_eq m n) (is_finished a) k).0 in
          elim allowed.1 [
            | inl c ↦ inl (subst (λ x. Had (commits x) es) same c.0)
            | inr c ↦ inr (subst (λ x. Had (cancels x) es) same c.0)
          ]
      by_message _ a allowed k = absurd (cc)

  pub repeats_are_done : RepeatsAreDone S
  repeats_are_done es legal moment token actions n is =
      let w = state_after S.core (effects es) in
      by_token token
      (repeats_kept {K = K} {V = V} {F = F} {B = B} S.same_actions (list_all (λ x. S.core.there w.catalog (S.core.key_of x)) actions) (found_kept es moment token) actions (record { moment = moment; number = w.ledger.next }) n (sym is))
    where
      settled : (k : KeptToken A) → IsKept es k → k.number ≡ n → Had (commits n) es ⊎ Had (cancels n) es → Had (commits n) es
      settled k h its (inl c) = c
      settled k h its (inr c) = absurd (h.live (subst (λ x. Had (cancels x) es) (sym its) c))

      by_token : (o : Option (List ℕ)) → RepeatsKept S.same_actions (found_kept es moment o) actions n → IsRepeat S es actions n
      by_token None r = let none = r.is in absurd (cc)
      by_token (Some t) r =
          let h = kept_is es legal t r.token (unless_some moment (kept es t) r.token r.is) in
          let done = subst (λ x. Had (finishes x) es) r.its (h.done r.completed) in
          record {
            begun = subst (λ x. Had (begins x) es) r.its h.begun;
            alike = sym (λ j. S.same_actions (begun_actions (effects es) (r.its j)) actions) ∙ (λ j. S.same_actions (h.actions j) actions) ∙ r.alike;
            committed = settled r.token h r.its (finish_settled es legal n done);
            done = done;
          }
