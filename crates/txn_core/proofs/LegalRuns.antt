-- A legal history is a run of the protocol: what the words of a history say of the state.
use Rattle.std.proofs.Common.{◌≡◌, ◌⊎◌, inl, inr, ℕ, ◌<◌, ◌≤◌, Bool, true, false, ◌&&◌, nat_eq, List, [], ◌∷◌, Option, None, Some, is_some, if◌then◌else◌, refl, sym, ap, ◌∙◌, subst, arith}
use Rattle.std.specs.List.{list_any, list_all}
use Rattle.std.specs.Prelude.{All}
use Rattle.std.proofs.lemmas.Bool.{eqb-true, cond_both, and_parts, or_cases, cases_lt, eq-eqb}
use Rattle.txn_core.specs.declared.stamp.Stamp.{Stamp}
use Rattle.txn_core.specs.declared.fate.Fate.{Fate}
use Rattle.txn_core.specs.declared.fate.Fate.TheVariants.{Undecided, Committed, Cancelled, Gone}
use Rattle.txn_core.specs.declared.reason.Reason.{Reason}
use Rattle.txn_core.specs.declared.message.Message.{Message}
use Rattle.txn_core.specs.declared.answer.Answer.{Answer}
use Rattle.txn_core.specs.declared.entry.Entry.{Entry}
use Rattle.txn_core.specs.Service.{Service, IsServiceLawful}
use Rattle.txn_core.specs.Effects.{Prepared, Applied, Finished, Forgot}
use Rattle.txn_core.specs.State.{Spot, Ledger, State, holder, on_item, touches, here, step, state_after, spot_prepared, spot_applied}
use Rattle.txn_core.specs.Runs.{May, IsRun, MayFinish}
use Rattle.txn_core.specs.Serial.{begun_actions}
use Rattle.txn_core.specs.Answers.{KeptToken, is_holder, begin_answer, has_record, decide_answer}
use Rattle.txn_core.specs.History.{is_accepted, is_applied, is_finished, is_forgotten, is_begun, tells_commit, tells_cancel, where_so, begin_effect, decide_effect, effect_of, effect, effects, Had, begins, commits, cancels, finishes, forgets, found_kept}
use Rattle.txn_core.specs.Legal.{only_expired, IsAnswer, accepts, applies, releases, HasGround, Allowed, Follows, IsLegal}
use Rattle.txn_core.proofs.Basics.{true_false, at_split, some_of}
use Rattle.txn_core.proofs.Invariant.{Good}
use Rattle.txn_core.proofs.Ends.{find_passes}
use Rattle.txn_core.proofs.Kept.{good, action_alike}
use Rattle.txn_core.proofs.Readings.{actions_read, stamp_read}
use Rattle.txn_core.proofs.Grows.{Grows, grows}
use Rattle.txn_core.proofs.Bridge.{all_found, where_true, may_write, may_expire, may_prepare, may_apply, may_release, may_begin, may_decide, may_done, may_forget, may_command}

module _ {K V A F C D Q B : Type 0} (S : Service K V A F C D Q B) (law : IsServiceLawful S) where
  -- what the words of a history say of the state
  pub record Facts (es : List (Entry K V A F D Q B)) : Type 0 where
    pub begun : (n : ℕ) → Had (begins n) es → n < (state_after S.core (effects es)).ledger.next
    pub accepted : (n : ℕ) (k : K) → Had (accepts S n k) es → ((state_after S.core (effects es)).spot k).accepted n ≡ true
    pub committed : (n : ℕ) → Had (commits n) es → (state_after S.core (effects es)).ledger.fate n ≡ Committed
    pub cancelled : (n : ℕ) → Had (cancels n) es → (state_after S.core (effects es)).ledger.fate n ≡ Cancelled
    pub applied : (n : ℕ) (k : K) → Had (applies S n k) es → ((state_after S.core (effects es)).ledger.fate n ≡ Committed) × (touches S.core (state_after S.core (effects es)).ledger n k ≡ true → ((state_after S.core (effects es)).spot k).applied n ≡ true)
    pub done : (n : ℕ) → Had (finishes n) es → (state_after S.core (effects es)).ledger.done n ≡ true
    pub gone : (n : ℕ) → Had (forgets n) es → (state_after S.core (effects es)).ledger.gone n ≡ true

  -- one step: what the newest entry says of the state after it
  module _ (w : State K V A C) where
    -- a Begin that draws a number draws the next one
    begin_draws : (actions : List A) (moment : ℕ) (b : Bool) (o : Option (KeptToken A)) (n : ℕ) → is_begun n (begin_answer {K = K} {V = V} {F = F} {B = B} S.same_actions b o actions (record { moment = moment; number = w.ledger.next })) ≡ true → n < (step S.core w (begin_effect {D = D} actions (begin_answer {K = K} {V = V} {F = F} {B = B} S.same_actions b o actions (record { moment = moment; number = w.ledger.next })))).ledger.next
    begin_draws actions moment false o n h = absurd (cc)
    begin_draws actions moment true None n h = let e = eqb-true w.ledger.next n h in omega arith
    begin_draws actions moment true (Some kept) n h =
        cond_both (S.same_actions kept.actions actions) (if is_some kept.completed then Answer.Repeat kept.number else Answer.Running kept.number) (Answer.Mismatch kept.number)
        (λ x. is_begun n x ≡ true → n < (step S.core w (begin_effect {K = K} {V = V} {F = F} {D = D} {B = B} actions x)).ledger.next)
        (λ e. cond_both (is_some kept.completed) (Answer.Repeat kept.number) (Answer.Running kept.number) (λ x. is_begun n x ≡ true → n < (step S.core w (begin_effect {K = K} {V = V} {F = F} {D = D} {B = B} actions x)).ledger.next) (λ _ k. absurd (cc)) (λ _ k. absurd (cc)))
        (λ e k. absurd (cc)) h

    decide_commits : (n m : ℕ) → m ≡ n → (recorded : Bool) (fate : Fate) (commit : Bool) → w.ledger.fate m ≡ fate → tells_commit {K = K} {V = V} {A = A} {F = F} {B = B} (decide_answer recorded fate commit) ≡ true → (step S.core w (decide_effect {K = K} {V = V} {A = A} {F = F} {B = B} m (decide_answer recorded fate commit))).ledger.fate n ≡ Committed
    decide_commits n m e false fate commit is h = absurd (cc)
    decide_commits n m e true Undecided true is h = at_split w.ledger.fate m Committed n (λ x. x ≡ Committed) (λ _. refl) (λ k. absurd (k e))
    decide_commits n m e true Undecided false is h = absurd (cc)
    decide_commits n m e true Committed commit is h = subst (λ x. w.ledger.fate x ≡ Committed) e is
    decide_commits n m e true Cancelled commit is h = absurd (cc)
    decide_commits n m e true Gone commit is h = absurd (cc)

    decide_cancels : (n m : ℕ) → m ≡ n → (recorded : Bool) (fate : Fate) (commit : Bool) → w.ledger.fate m ≡ fate → tells_cancel {K = K} {V = V} {A = A} {F = F} {B = B} (decide_answer recorded fate commit) ≡ true → (step S.core w (decide_effect {K = K} {V = V} {A = A} {F = F} {B = B} m (decide_answer recorded fate commit))).ledger.fate n ≡ Cancelled
    decide_cancels n m e false fate commit is h = absurd (cc)
    decide_cancels n m e true Undecided true is h = absurd (cc)
    decide_cancels n m e true Undecided false is h = at_split w.ledger.fate m Cancelled n (λ x. x ≡ Cancelled) (λ _. refl) (λ k. absurd (k e))
    decide_cancels n m e true Committed commit is h = absurd (cc)
    decide_cancels n m e true Cancelled commit is h = subst (λ x. w.ledger.fate x ≡ Cancelled) e is
    decide_cancels n m e true Gone commit is h = absurd (cc)

    prepare_accepts : (n : ℕ) (stamp : Stamp) (a : A) (k : K) → S.core.same (S.core.key_of a) k ≡ true → ((step S.core w (Prepared n stamp a)).spot k).accepted n ≡ true
    prepare_accepts n stamp a k same =
        cond_both (S.core.same (S.core.key_of a) k) (spot_prepared S.core w.catalog n stamp a (w.spot k)) (w.spot k) (λ s. s.accepted n ≡ true)
        (λ e. at_split (w.spot k).accepted n true n (λ b. b ≡ true) (λ _. refl) (λ ne. absurd (ne refl)))
        (λ e. true_false (S.core.same (S.core.key_of a) k) same e)

    -- an Apply after the commit leaves the transaction applied on the item
    apply_applies : Good S.core w → (n : ℕ) (key k : K) → w.ledger.fate n ≡ Committed → S.core.same key k ≡ true → touches S.core w.ledger n k ≡ true → (b : Bool) → is_holder (holder (w.spot key).pend) n ≡ b → ((step S.core w (where_so (is_applied {K = K} {V = V} {A = A} {F = F} {B = B} (if b then Answer.Applied else Answer.Nothing)) (Applied n key))).spot k).applied n ≡ true
    apply_applies g n key k committed same touched true is =
        cond_both (S.core.same key k) (spot_applied (here S.core w key) n (w.spot k)) (w.spot k) (λ s. s.applied n ≡ true)
        (λ e. at_split (w.spot k).applied n true n (λ b. b ≡ true) (λ _. refl) (λ ne. absurd (ne refl)))
        (λ e. true_false (S.core.same key k) same e)
    apply_applies g n key k committed same touched false is = go ((w.spot k).applied n) refl
      where
        itself : (m : ℕ) → nat_eq m m ≡ true
        itself m = eq-eqb m m refl

        go : (b : Bool) → (w.spot k).applied n ≡ b → (w.spot k).applied n ≡ true
        go true e = e
        go false e =
            let h = (g.spots k).waits n committed touched e in
            let there : holder (w.spot key).pend ≡ Some n = ap (λ (s : Spot V). holder s.pend) (g.alike key k same) ∙ h in
            true_false (is_holder (holder (w.spot key).pend) n) (ap (λ o. is_holder o n) there ∙ itself n) is

  module _ (es : List (Entry K V A F D Q B)) (run : IsRun S.core (effects es)) (facts : Facts es) where
    -- a transaction's action on an item, in the words of the history
    action_in : (n : ℕ) (q : K) → touches S.core (state_after S.core (effects es)).ledger n q ≡ true → (a : A) × (on_item S.core (begun_actions (effects es) n) q ≡ Some a) × (S.core.same (S.core.key_of a) q ≡ true)
    action_in n q t =
        let s = some_of (on_item S.core (begun_actions (effects es) n) q) (ap (λ x. is_some (on_item S.core x q)) (sym (actions_read S.core (effects es) run n)) ∙ t) in
        (s.0, s.1, find_passes (λ x. S.core.same (S.core.key_of x) q) (begun_actions (effects es) n) s.0 s.1)

    all_accepted : (n : ℕ) (commit : Bool) (reasons : List (Reason V F)) → HasGround S es n commit reasons → commit ≡ true → (q : K) → touches S.core (state_after S.core (effects es)).ledger n q ≡ true → ((state_after S.core (effects es)).spot q).accepted n ≡ true
    all_accepted n true reasons ground yes' q t =
        let a = action_in n q t in
        let h = facts.accepted n (S.core.key_of a.0) (all_found (λ x. Had (accepts S n (S.core.key_of x)) es) (λ x. S.core.same (S.core.key_of x) q) (begun_actions (effects es) n) a.0 ground a.1) in
        subst (λ (s : Spot V). s.accepted n ≡ true) ((good S.core law.core (effects es) run).alike (S.core.key_of a.0) q a.2) h
    all_accepted n false reasons ground no' q t = absurd (cc)

    may_finish : (n : ℕ) → ((Had (commits n) es × All (λ x. Had (applies S n (S.core.key_of x)) es) (begun_actions (effects es) n)) ⊎ (Had (cancels n) es × All (λ x. Had (releases S n (S.core.key_of x)) es) (begun_actions (effects es) n))) → MayFinish S.core (state_after S.core (effects es)) n
    may_finish n (inl h) =
        let f = facts.committed n h.0 in
        record {
          known = λ u. cc;
          all_applied = λ _ q t.
              let a = action_in n q t in
              let here' = (facts.applied n (S.core.key_of a.0) (all_found (λ x. Had (applies S n (S.core.key_of x)) es) (λ x. S.core.same (S.core.key_of x) q) (begun_actions (effects es) n) a.0 h.1 a.1)).1 in
              let l = (state_after S.core (effects es)).ledger in
              let t' : touches S.core l n (S.core.key_of a.0) ≡ true = ap (λ o. is_some o) (action_alike S.core law.core l n (S.core.key_of a.0) q a.2) ∙ t in
              subst (λ (s : Spot V). s.applied n ≡ true) ((good S.core law.core (effects es) run).alike (S.core.key_of a.0) q a.2) (here' t');
        }
    may_finish n (inr h) =
        let f = facts.cancelled n h.0 in
        record { known = λ u. cc; all_applied = λ c q t. absurd (cc) }

    release_cause : (n : ℕ) → Had (cancels n) es ⊎ Had (forgets n) es → ((state_after S.core (effects es)).ledger.fate n ≡ Cancelled) ⊎ ((state_after S.core (effects es)).ledger.gone n ≡ true)
    release_cause n (inl h) = inl (facts.cancelled n h)
    release_cause n (inr h) = inr (facts.gone n h)

    -- what the next entry changes may happen
    may_follow : (pass moment : ℕ) (m : Message K V A F D Q) (a : Answer K V A F B) → IsAnswer S es moment m a → Allowed S es pass m → May S.core (state_after S.core (effects es)) (effect_of moment m a)
    may_follow pass moment (Message.Write action) a is allowed =
        let w = state_after S.core (effects es) in
        subst (λ x. May S.core w (effect_of {Q = Q} moment (Message.Write action) x)) (sym is)
        (may_write S law w action moment (S.core.there w.catalog (S.core.key_of action)) (holder (w.spot (S.core.key_of action)).pend) (S.core.act w.catalog action (w.spot (S.core.key_of action)).row) refl refl refl)
    may_follow pass moment (Message.Expire action) a is allowed =
        let w = state_after S.core (effects es) in
        let k = S.core.key_of action in
        subst (λ x. May S.core w (effect_of {Q = Q} moment (Message.Expire action) x)) (sym is)
        (may_expire S law w action moment (S.core.there w.catalog k) (holder (w.spot k).pend) (only_expired S w.catalog k moment (w.spot k).row) (S.core.act w.catalog action (w.spot k).row) refl refl refl)
    may_follow pass moment (Message.Prepare n stamp action) a is allowed =
        let w = state_after S.core (effects es) in
        subst (λ x. May S.core w (effect_of {Q = Q} moment (Message.Prepare n stamp action) x)) (sym is)
        (may_prepare S law w n stamp action (facts.begun n allowed.0) (allowed.1 ∙ sym (stamp_read S.core (effects es) run n))
        (ap (λ x. on_item S.core x (S.core.key_of action)) (actions_read S.core (effects es) run n) ∙ allowed.2)
        (S.core.there w.catalog (S.core.key_of action)) (holder (w.spot (S.core.key_of action)).pend) (S.core.act w.catalog action (w.spot (S.core.key_of action)).row) refl refl refl)
    may_follow pass moment (Message.Apply n key) a is allowed =
        let w = state_after S.core (effects es) in
        subst (λ x. May S.core w (effect_of {Q = Q} moment (Message.Apply n key) x)) (sym is) (may_apply S law w n key (facts.committed n allowed))
    may_follow pass moment (Message.Release n key) a is allowed =
        let w = state_after S.core (effects es) in
        subst (λ x. May S.core w (effect_of {Q = Q} moment (Message.Release n key) x)) (sym is) (may_release S law w n key (release_cause n allowed))
    may_follow pass moment (Message.Begin token actions) a is allowed =
        let w = state_after S.core (effects es) in
        subst (λ x. May S.core w (effect_of {Q = Q} moment (Message.Begin token actions) x)) (sym is)
        (may_begin S law w actions moment (list_all (λ x. S.core.there w.catalog (S.core.key_of x)) actions) (found_kept es moment token))
    may_follow pass moment (Message.Decide n commit reasons) a is allowed =
        let w = state_after S.core (effects es) in
        subst (λ x. May S.core w (effect_of {Q = Q} moment (Message.Decide n commit reasons) x)) (sym is)
        (may_decide S law w n (facts.begun n allowed.0) (has_record w.ledger n) (w.ledger.fate n) commit refl (all_accepted n commit reasons allowed.1))
    may_follow pass moment (Message.Done n) a is allowed =
        let w = state_after S.core (effects es) in
        subst (λ x. May S.core w (effect_of {Q = Q} moment (Message.Done n) x)) (sym is) (may_done S law w n (has_record w.ledger n) (may_finish n allowed.1))
    may_follow pass moment (Message.Forget n) a is allowed =
        let w = state_after S.core (effects es) in
        subst (λ x. May S.core w (effect_of {Q = Q} moment (Message.Forget n) x)) (sym is) (may_forget S law w n (has_record w.ledger n) (facts.done n allowed.0))
    may_follow pass moment (Message.Command d) a is allowed =
        let w = state_after S.core (effects es) in
        may_command S law w (good S.core law.core (effects es) run) d moment a (S.refuses d w.catalog) refl is
    may_follow pass moment (Message.Get key) a is allowed = tt
    may_follow pass moment (Message.ReadVersion key) a is allowed = tt
    may_follow pass moment (Message.FateOf n) a is allowed = tt
    may_follow pass moment (Message.Recall n) a is allowed = tt
    may_follow pass moment Message.Unfinished a is allowed = tt
    may_follow pass moment (Message.Ask question) a is allowed = tt
    may_follow pass moment (Message.QueryPage page) a is allowed = tt
    may_follow pass moment (Message.ScanPage page) a is allowed = tt
    may_follow pass moment (Message.ExpiredKeys cell limit) a is allowed = tt
    may_follow pass moment (Message.Pendings cell) a is allowed = tt
    may_follow pass moment (Message.PeekOut source) a is allowed = tt
    may_follow pass moment (Message.ApplyIndex source sequence index row_key after) a is allowed = tt
    may_follow pass moment (Message.Ack source sequence) a is allowed = tt

    -- what the next entry says of the state after it
    tells_begun : (moment : ℕ) (m : Message K V A F D Q) (a : Answer K V A F B) → IsAnswer S es moment m a → (n : ℕ) → begins n m a ≡ true → n < (step S.core (state_after S.core (effects es)) (effect_of moment m a)).ledger.next
    tells_begun moment (Message.Begin token actions) a is n h =
        let w = state_after S.core (effects es) in
        subst (λ x. is_begun n x ≡ true → n < (step S.core w (begin_effect {D = D} actions x)).ledger.next) (sym is)
        (begin_draws w actions moment (list_all (λ x. S.core.there w.catalog (S.core.key_of x)) actions) (found_kept es moment token) n) h
    tells_begun moment _ a is n h = absurd (cc)

    tells_accepted : (moment : ℕ) (m : Message K V A F D Q) (a : Answer K V A F B) (n : ℕ) (k : K) → accepts S n k m a ≡ true → ((step S.core (state_after S.core (effects es)) (effect_of moment m a)).spot k).accepted n ≡ true
    tells_accepted moment (Message.Prepare i stamp action) a n k h =
        let w = state_after S.core (effects es) in
        let p = and_parts (nat_eq i n && S.core.same (S.core.key_of action) k) (is_accepted a) h in
        let r = and_parts (nat_eq i n) (S.core.same (S.core.key_of action) k) p.0 in
        subst (λ e. ((step S.core w e).spot k).accepted n ≡ true) (sym (where_true (is_accepted a) (Prepared i stamp action) p.1))
        (subst (λ j. ((step S.core w (Prepared i stamp action)).spot k).accepted j ≡ true) (eqb-true i n r.0) (prepare_accepts w i stamp action k r.1))
    tells_accepted moment _ a n k h = absurd (cc)

    tells_committed : (moment : ℕ) (m : Message K V A F D Q) (a : Answer K V A F B) → IsAnswer S es moment m a → (n : ℕ) → commits n m a ≡ true → (step S.core (state_after S.core (effects es)) (effect_of moment m a)).ledger.fate n ≡ Committed
    tells_committed moment (Message.Decide i commit reasons) a is n h =
        let w = state_after S.core (effects es) in
        let p = and_parts (nat_eq i n) (tells_commit a) h in
        subst (λ x. tells_commit x ≡ true → (step S.core w (decide_effect i x)).ledger.fate n ≡ Committed) (sym is)
        (decide_commits w n i (eqb-true i n p.0) (has_record w.ledger i) (w.ledger.fate i) commit refl) p.1
    tells_committed moment _ a is n h = absurd (cc)

    tells_cancelled : (moment : ℕ) (m : Message K V A F D Q) (a : Answer K V A F B) → IsAnswer S es moment m a → (n : ℕ) → cancels n m a ≡ true → (step S.core (state_after S.core (effects es)) (effect_of moment m a)).ledger.fate n ≡ Cancelled
    tells_cancelled moment (Message.Decide i commit reasons) a is n h =
        let w = state_after S.core (effects es) in
        let p = and_parts (nat_eq i n) (tells_cancel a) h in
        subst (λ x. tells_cancel x ≡ true → (step S.core w (decide_effect i x)).ledger.fate n ≡ Cancelled) (sym is)
        (decide_cancels w n i (eqb-true i n p.0) (has_record w.ledger i) (w.ledger.fate i) commit refl) p.1
    tells_cancelled moment _ a is n h = absurd (cc)

    tells_done : (moment : ℕ) (m : Message K V A F D Q) (a : Answer K V A F B) (n : ℕ) → finishes n m a ≡ true → (step S.core (state_after S.core (effects es)) (effect_of moment m a)).ledger.done n ≡ true
    tells_done moment (Message.Done i) a n h =
        let w = state_after S.core (effects es) in
        let p = and_parts (nat_eq i n) (is_finished a) h in
        subst (λ e. (step S.core w e).ledger.done n ≡ true) (sym (where_true (is_finished a) (Finished i) p.1))
        (at_split w.ledger.done i true n (λ b. b ≡ true) (λ _. refl) (λ ne. absurd (ne (eqb-true i n p.0))))
    tells_done moment _ a n h = absurd (cc)

    tells_gone : (moment : ℕ) (m : Message K V A F D Q) (a : Answer K V A F B) (n : ℕ) → forgets n m a ≡ true → (step S.core (state_after S.core (effects es)) (effect_of moment m a)).ledger.gone n ≡ true
    tells_gone moment (Message.Forget i) a n h =
        let w = state_after S.core (effects es) in
        let p = and_parts (nat_eq i n) (is_forgotten a) h in
        subst (λ e. (step S.core w e).ledger.gone n ≡ true) (sym (where_true (is_forgotten a) (Forgot i) p.1))
        (at_split w.ledger.gone i true n (λ b. b ≡ true) (λ _. refl) (λ ne. absurd (ne (eqb-true i n p.0))))
    tells_gone moment _ a n h = absurd (cc)

    tells_applied : (pass moment : ℕ) (m : Message K V A F D Q) (a : Answer K V A F B) → IsAnswer S es moment m a → Allowed S es pass m → (n : ℕ) (k : K) → applies S n k m a ≡ true → ((step S.core (state_after S.core (effects es)) (effect_of moment m a)).ledger.fate n ≡ Committed) × (touches S.core (step S.core (state_after S.core (effects es)) (effect_of moment m a)).ledger n k ≡ true → ((step S.core (state_after S.core (effects es)) (effect_of moment m a)).spot k).applied n ≡ true)
    tells_applied pass moment (Message.Apply i key) a is allowed n k h =
        let w = state_after S.core (effects es) in
        let p = and_parts (nat_eq i n) (S.core.same key k) h in
        let f = facts.committed i allowed in
        subst (λ j. ((step S.core w (where_so (is_applied a) (Applied i key))).ledger.fate j ≡ Committed) × (touches S.core (step S.core w (where_so (is_applied a) (Applied i key))).ledger j k ≡ true → ((step S.core w (where_so (is_applied a) (Applied i key))).spot k).applied j ≡ true)) (eqb-true i n p.0)
        (subst (λ (l : Ledger A). (l.fate i ≡ Committed) × (touches S.core l i k ≡ true → ((step S.core w (where_so (is_applied a) (Applied i key))).spot k).applied i ≡ true)) (sym (same_ledger (is_applied a) i key)) (
          f,
          λ t. subst (λ x. ((step S.core w (where_so (is_applied x) (Applied i key))).spot k).applied i ≡ true) (sym is)
              (apply_applies w (good S.core law.core (effects es) run) i key k f p.1 t (is_holder (holder (w.spot key).pend) i) refl),
        ))
      where
        same_ledger : (b : Bool) (i : ℕ) (key : K) → (step S.core (state_after S.core (effects es)) (where_so b (Applied i key))).ledger ≡ (state_after S.core (effects es)).ledger
        same_ledger true i key = refl
        same_ledger false i key = refl
    tells_applied pass moment _ a is allowed n k h = absurd (cc)

    -- and all of them stay true
    facts_more : (e : Entry K V A F D Q B) → Follows S es e → Facts (e ∷ es)
    facts_more e next =
        let w = state_after S.core (effects es) in
        let may = may_follow e.pass e.moment e.message e.answer next.answer next.allowed in
        let more = grows S.core w (effect e) may in
        record {
          begun = λ n h. elim (or_cases (begins n e.message e.answer) (list_any (λ x. begins n x.message x.answer) es) h) [
            | inl k ↦ tells_begun e.moment e.message e.answer next.answer n k
            | inr k ↦ (let b = facts.begun n k in let m = more.next in omega arith)
          ];
          accepted = λ n q h. elim (or_cases (accepts S n q e.message e.answer) (list_any (λ x. accepts S n q x.message x.answer) es) h) [
            | inl k ↦ tells_accepted e.moment e.message e.answer n q k
            | inr k ↦ more.accepted q n (facts.accepted n q k)
          ];
          committed = λ n h. elim (or_cases (commits n e.message e.answer) (list_any (λ x. commits n x.message x.answer) es) h) [
            | inl k ↦ tells_committed e.moment e.message e.answer next.answer n k
            | inr k ↦ more.committed n (facts.committed n k)
          ];
          cancelled = λ n h. elim (or_cases (cancels n e.message e.answer) (list_any (λ x. cancels n x.message x.answer) es) h) [
            | inl k ↦ tells_cancelled e.moment e.message e.answer next.answer n k
            | inr k ↦ more.cancelled n (facts.cancelled n k)
          ];
          applied = λ n q h. elim (or_cases (applies S n q e.message e.answer) (list_any (λ x. applies S n q x.message x.answer) es) h) [
            | inl k ↦ tells_applied e.pass e.moment e.message e.answer next.answer next.allowed n q k
            | inr k ↦ still_applied more n q (facts.applied n q k)
          ];
          done = λ n h. elim (or_cases (finishes n e.message e.answer) (list_any (λ x. finishes n x.message x.answer) es) h) [
            | inl k ↦ tells_done e.moment e.message e.answer n k
            | inr k ↦ more.done n (facts.done n k)
          ];
          gone = λ n h. elim (or_cases (forgets n e.message e.answer) (list_any (λ x. forgets n x.message x.answer) es) h) [
            | inl k ↦ tells_gone e.moment e.message e.answer n k
            | inr k ↦ more.gone n (facts.gone n k)
          ];
        }
      where
        drawn : (n : ℕ) → (state_after S.core (effects es)).ledger.fate n ≡ Committed → n < (state_after S.core (effects es)).ledger.next
        drawn n f = below n f (cases_lt n (state_after S.core (effects es)).ledger.next)
          where
            below : (n : ℕ) → (state_after S.core (effects es)).ledger.fate n ≡ Committed → (n < (state_after S.core (effects es)).ledger.next) ⊎ ((state_after S.core (effects es)).ledger.next ≤ n) → n < (state_after S.core (effects es)).ledger.next
            below n f (inl lt) = lt
            below n f (inr ge) = let u = (good S.core law.core (effects es) run).fresh n ge in absurd (cc)

        still_applied : {u : State K V A C} → Grows (state_after S.core (effects es)) u → (n : ℕ) (q : K) → ((state_after S.core (effects es)).ledger.fate n ≡ Committed) × (touches S.core (state_after S.core (effects es)).ledger n q ≡ true → ((state_after S.core (effects es)).spot q).applied n ≡ true) → (u.ledger.fate n ≡ Committed) × (touches S.core u.ledger n q ≡ true → (u.spot q).applied n ≡ true)
        still_applied more n q h = (
          more.committed n h.0,
          λ t. more.applied q n (h.1 (ap (λ x. is_some (on_item S.core x q)) (sym (more.actions n (drawn n h.0))) ∙ t)),
        )

  no_facts : Facts []
  no_facts =
      record {
        begun = λ n h. absurd (cc);
        accepted = λ n k h. absurd (cc);
        committed = λ n h. absurd (cc);
        cancelled = λ n h. absurd (cc);
        applied = λ n k h. absurd (cc);
        done = λ n h. absurd (cc);
        gone = λ n h. absurd (cc);
      }

  pub legal_facts : (es : List (Entry K V A F D Q B)) → IsLegal S es → IsRun S.core (effects es) × Facts es
  legal_facts [] legal = (tt, no_facts)
  legal_facts (e ∷ es) legal =
      let before = legal_facts es legal.0 in
      ((before.0, may_follow es before.0 before.1 e.pass e.moment e.message e.answer legal.1.answer legal.1.allowed), facts_more es before.0 before.1 e legal.1)

  -- the effects of a legal history are a run
  pub legal_run : (es : List (Entry K V A F D Q B)) → IsLegal S es → IsRun S.core (effects es)
  legal_run es legal = (legal_facts es legal).0
