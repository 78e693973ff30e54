-- What an entry leaves of the control cell, message by message.
use Rattle.std.proofs.Common.{◌≡◌, ℕ, ◌<◌, ◌≤◌, Bool, true, false, not, ◌&&◌, ◌||◌, nat_eq, nat_le, nat_lt, List, [], ◌∷◌, Option, None, Some, is_some, option_map, if◌then◌else◌, inl, inr, refl, sym, ap, ◌∙◌, subst, arith}
use Rattle.std.proofs.lemmas.Bool.{cases_Bool, cond_both, eqb-true, eq-eqb, ltb-true, leb-true}
use Rattle.std.proofs.Math.Bool.{and-false}
use Rattle.txn_core.specs.declared.fate.Fate.{Fate}
use Rattle.txn_core.specs.declared.fate.Fate.TheVariants.{Undecided, Committed, Cancelled, Gone}
use Rattle.txn_core.specs.declared.reason.Reason.{Reason}
use Rattle.txn_core.specs.declared.message.Message.{Message}
use Rattle.txn_core.specs.declared.answer.Answer.{Answer}
use Rattle.txn_core.specs.Service.{Service, Asked, Reply, Event, History}
use Rattle.txn_core.specs.Answers.{KeptToken, has_record, decide_answer, recall_answer}
use Rattle.txn_core.specs.State.{Ledger, State, at, step, ledger_decided, ledger_finished, ledger_forgot}
use Rattle.txn_core.specs.History.{effect_of, reasons_in, reasons_of, kept_after, kept}
use Rattle.std.specs.List.{list_any}
use Rattle.txn_core.specs.Effects.{Effect, Wrote, Begun, Prepared, Commits, Cancels, Applied, Released, Finished, Forgot, Changed, Quiet}
use Rattle.txn_core.specs.History as core
use Rattle.txn_core.specs.Legal.{state}
use Rattle.txn_core.proofs.Basics.{at_split}
use Rattle.txn_ledger.specs.declared.record.Record.{Record}
use Rattle.txn_ledger.specs.declared.ledger.TxnLedger.{TxnLedger}
use Rattle.txn_ledger.specs.Changes.{Alters}
use Rattle.txn_ledger.specs.Contents.{next_of, record_at, kept_at}
use Rattle.txn_ledger.specs.Records.{answer_to, cancels, decided, decided_as, fate_after, finished}
use Rattle.txn_ledger.specs.Tokens.{completed, freed}
use Rattle.control_cell.specs.declared.cell.ControlCell.{ControlCell}
use Rattle.control_cell.specs.Keeping.{token_of, IsRecordOf, Keeps}
use Rattle.control_cell.specs.Holding.{Holds, IsEntry}
use Rattle.control_cell.proofs.Altered.{both, some_is, at_here, at_other, drawn_of, as_before, like, changed}
use Rattle.control_cell.proofs.TokenWords.{completed_is, freed_is}

unmoved : {X : Type 0} (f : X → X) (o : Option X) → is_some o ≡ false → option_map f o ≡ o
unmoved f None e = refl
unmoved f (Some x) e = absurd (cc)

nothing : {X : Type 0} (o : Option X) → is_some o ≡ false → None ≡ o
nothing None e = refl
nothing (Some x) e = absurd (cc)

-- a number that is gone has no record
no_record : {A : Type 0} (l : Ledger A) (n : ℕ) → l.gone n ≡ true → has_record l n ≡ false
no_record l n e =
    (λ j. nat_le 1 n && (nat_lt n l.next && not (e j)))
    ∙ ap (λ b. nat_le 1 n && b) (and-false (nat_lt n l.next)) ∙ and-false (nat_le 1 n)

module _ {A Q : Type 0} where
  -- a number's record is that of the state
  there_is : (l : Ledger A) (rs : ℕ → List Q) (kept : List ℕ → Option (KeptToken A)) (ledger : TxnLedger A Q) (n : ℕ) (r : Record A Q) → Keeps l rs kept ledger → Some r ≡ record_at ledger n → has_record l n ≡ true
  there_is l rs kept ledger n r h found = sym (h.recorded n) ∙ ap is_some (sym found)

  none_is : (l : Ledger A) (rs : ℕ → List Q) (kept : List ℕ → Option (KeptToken A)) (ledger : TxnLedger A Q) (n : ℕ) → Keeps l rs kept ledger → None ≡ record_at ledger n → has_record l n ≡ false
  none_is l rs kept ledger n h found = sym (h.recorded n) ∙ ap is_some (sym found)

  -- a fate is set for the first time, with reasons
  set_keeps :
      (l : Ledger A) (rs : ℕ → List Q) (kept kept_new : List ℕ → Option (KeptToken A)) (old new : TxnLedger A Q) (n : ℕ)
      (r : Record A Q) (fate : Fate) (reasons : List Q) → Keeps l rs kept old → Some r ≡ record_at old n → next_of new ≡ next_of old
      → Alters old.records new.records n (Some (record r { fate = fate; reasons = reasons }))
      → ((token : List ℕ) → token_of (kept_at new token) ≡ kept_new token)
      → Keeps (ledger_decided l n fate) (λ m. if nat_eq n m && true then reasons else rs m) kept_new new
  set_keeps l rs kept kept_new old new n r fate reasons h found next alters tokens =
      let there : has_record l n ≡ true = there_is l rs kept old n r h found in
      let q = h.records n r (sym found) in
      changed l (ledger_decided l n fate) rs (λ m. if nat_eq n m && true then reasons else rs m) kept kept_new old new n
      (Some (record r { fate = fate; reasons = reasons })) h (drawn_of l n there) next refl alters
      (λ m ne.
      record {
        stamp = refl;
        actions = refl;
        fate = at_other l.fate n fate m ne;
        done = refl;
        gone = refl;
        reasons = cond_both (nat_eq n m && true) reasons (rs m) (λ x. x ≡ rs m) (λ e. absurd (ne (eqb-true n m (both (nat_eq n m) true e).0))) (λ _. refl);
      })
      (sym there)
      (λ x is.
      subst (λ z. IsRecordOf (ledger_decided l n fate) (if nat_eq n n && true then reasons else rs n) n z)
      (some_is (record r { fate = fate; reasons = reasons }) x is)
      (record {
        stamp_is = q.stamp_is;
        actions_are = q.actions_are;
        fate_is = sym (at_here l.fate n fate);
        reasons_are = ap (λ b. if b && true then reasons else rs n) (sym (eq-eqb n n refl));
        done_is = q.done_is;
      }))
      (h.gone_are_done n) tokens

module _ {K V A F C D Q B : Type 0} (S : Service K V A F C D Q B) where
  -- the catalog and the ledger are what an entry of this message and answer leaves
  pub record Left (es : History S) (moment : ℕ) (m : Asked S) (a : Reply S) (catalog : C) (ledger : TxnLedger A (Reason V F)) : Type 0 where
    pub catalog_is : catalog ≡ (step S.core (state S es) (effect_of moment m a)).catalog
    pub keeps :
        Keeps (step S.core (state S es) (effect_of moment m a)).ledger (λ n. reasons_in n m a (reasons_of es n))
        (λ token. kept_after moment m a token (kept es token)) ledger

  -- the message and the answer change nothing
  pub record IsQuiet (moment : ℕ) (m : Asked S) (a : Reply S) : Type 0 where
    pub effect : effect_of moment m a ≡ Quiet
    pub reasons : (n : ℕ) (older : List (Reason V F)) → reasons_in n m a older ≡ older
    pub tokens : (token : List ℕ) (older : Option (KeptToken A)) → kept_after moment m a token older ≡ older

  pub holds_by :
      {R : Type 0} (es : History S) (e : Event S) (moment : ℕ) (m : Asked S) (a : Reply S) (cell : ControlCell R K V A F C D Q B)
      → IsEntry S moment m a e → Left es moment m a cell.catalog cell.ledger → Holds S (e ∷ es) cell
  holds_by es e moment m a cell is left =
      let x : moment ≡ e.moment = sym is.moment_is in
      let y : m ≡ e.message = sym is.message_is in
      let z : a ≡ e.answer = sym is.answer_is in
      record {
        catalog_is = left.catalog_is ∙ (λ j. (step S.core (state S es) (effect_of (x j) (y j) (z j))).catalog);
        keeps =
            subst
            (λ (p : ℕ × (Asked S × Reply S)).
            Keeps (step S.core (state S es) (effect_of p.0 p.1.0 p.1.1)).ledger (λ n. reasons_in n p.1.0 p.1.1 (reasons_of es n))
            (λ token. kept_after p.0 p.1.0 p.1.1 token (kept es token)) cell.ledger)
            (λ j. (x j, (y j, z j))) left.keeps;
      }

  -- of a Decide that sets nothing
  quiet_decide : (n : ℕ) (fate : Fate) → core.decide_effect {K = K} {V = V} {A = A} {F = F} {D = D} {B = B} n (Answer.Decided fate false) ≡ Quiet
  quiet_decide n Undecided = refl
  quiet_decide n Committed = refl
  quiet_decide n Cancelled = refl
  quiet_decide n Gone = refl

  late_decide :
      (es : History S) (moment n : ℕ) (commit : Bool) (reasons : List (Reason V F)) (fate : Fate) (catalog : C)
      (old new : TxnLedger A (Reason V F)) (o : Option (Record A (Reason V F))) → catalog ≡ (state S es).catalog
      → Keeps (state S es).ledger (reasons_of es) (kept es) old → o ≡ record_at old n → next_of new ≡ next_of old
      → Alters old.records new.records n o → ((token : List ℕ) → kept_at new token ≡ kept_at old token)
      → Left es moment (Message.Decide n commit reasons) (Answer.Decided fate false) catalog new
  late_decide es moment n commit reasons fate catalog old new o cat h found next alters tokens =
      let w : State K V A C = state S es in
      let quiet : Quiet ≡ core.decide_effect {K = K} {V = V} {A = A} {F = F} {D = D} {B = B} n (Answer.Decided fate false) = sym (quiet_decide n fate) in
      record {
        catalog_is = cat ∙ (λ j. (step S.core w (quiet j)).catalog);
        keeps =
            subst
            (λ (e : Effect K A D).
            Keeps (step S.core w e).ledger (λ m. if nat_eq n m && false then reasons else reasons_of es m) (kept es) new)
            quiet
            (like w.ledger (reasons_of es) (λ m. if nat_eq n m && false then reasons else reasons_of es m) (kept es) (kept es) old new h next
            (as_before old new n o alters found)
            (λ m. ap (λ b. if b then reasons else reasons_of es m) (and-false (nat_eq n m)))
            (λ token. ap token_of (tokens token) ∙ h.tokens token));
      }

  -- of a Decide, by the fate of its record
  decide_by :
      (es : History S) (moment n : ℕ) (commit : Bool) (reasons : List (Reason V F)) (catalog : C)
      (old new : TxnLedger A (Reason V F)) (r : Record A (Reason V F)) (fate : Fate) → r.fate ≡ fate → catalog ≡ (state S es).catalog
      → Keeps (state S es).ledger (reasons_of es) (kept es) old → Some r ≡ record_at old n → next_of new ≡ next_of old
      → Alters old.records new.records n (Some (decided_as (fate_after fate commit) reasons r))
      → ((token : List ℕ) → kept_at new token ≡ (if cancels (fate_after fate commit) then freed n (kept_at old token) else kept_at old token))
      → Left es moment (Message.Decide n commit reasons) (Answer.Decided (fate_after fate commit).0 (fate_after fate commit).1) catalog new
  decide_by es moment n true reasons catalog old new r Undecided is cat h found next alters tokens =
      record {
        catalog_is = cat;
        keeps =
            set_keeps (state S es).ledger (reasons_of es) (kept es) (kept es) old new n r Committed reasons h found next alters
            (λ token. ap token_of (tokens token) ∙ h.tokens token);
      }
  decide_by es moment n false reasons catalog old new r Undecided is cat h found next alters tokens =
      record {
        catalog_is = cat;
        keeps =
            set_keeps (state S es).ledger (reasons_of es) (kept es) (λ token. core.freed n (kept es token)) old new n r Cancelled reasons h
            found next alters
            (λ token. ap token_of (tokens token) ∙ freed_is n (kept_at old token) ∙ ap (core.freed n) (h.tokens token));
      }
  decide_by es moment n commit reasons catalog old new r Committed is cat h found next alters tokens =
      late_decide es moment n commit reasons Committed catalog old new (Some r) cat h found next alters tokens
  decide_by es moment n commit reasons catalog old new r Cancelled is cat h found next alters tokens =
      late_decide es moment n commit reasons Cancelled catalog old new (Some r) cat h found next alters tokens
  decide_by es moment n commit reasons catalog old new r Gone is cat h found next alters tokens =
      late_decide es moment n commit reasons Gone catalog old new (Some r) cat h found next alters tokens

  -- of every Decide
  pub decide_left :
      (es : History S) (moment n : ℕ) (commit : Bool) (reasons : List (Reason V F)) (catalog : C)
      (old new : TxnLedger A (Reason V F)) (o : Option (Record A (Reason V F))) → o ≡ record_at old n → catalog ≡ (state S es).catalog
      → Keeps (state S es).ledger (reasons_of es) (kept es) old → next_of new ≡ next_of old
      → Alters old.records new.records n (option_map (decided commit reasons) o)
      → ((token : List ℕ) → kept_at new token ≡ (if cancels (answer_to o commit) then freed n (kept_at old token) else kept_at old token))
      → Left es moment (Message.Decide n commit reasons) (Answer.Decided (answer_to o commit).0 (answer_to o commit).1) catalog new
  decide_left es moment n commit reasons catalog old new None found cat h next alters tokens =
      late_decide es moment n commit reasons Gone catalog old new None cat h found next alters tokens
  decide_left es moment n commit reasons catalog old new (Some r) found cat h next alters tokens =
      decide_by es moment n commit reasons catalog old new r r.fate refl cat h found next alters tokens

  pub decide_taken :
      (es : History S) (moment n : ℕ) (commit : Bool) (reasons : List (Reason V F)) (catalog : C)
      (old new : TxnLedger A (Reason V F)) (d : Fate × Bool) → d ≡ answer_to (record_at old n) commit → catalog ≡ (state S es).catalog
      → Keeps (state S es).ledger (reasons_of es) (kept es) old → next_of new ≡ next_of old
      → Alters old.records new.records n (option_map (decided commit reasons) (record_at old n))
      → ((token : List ℕ) → kept_at new token ≡ (if cancels d then freed n (kept_at old token) else kept_at old token))
      → Left es moment (Message.Decide n commit reasons) (Answer.Decided d.0 d.1) catalog new
  decide_taken es moment n commit reasons catalog old new d is cat h next alters tokens =
      subst
      (λ (p : Fate × Bool).
      ((token : List ℕ) → kept_at new token ≡ (if cancels p then freed n (kept_at old token) else kept_at old token))
      → Left es moment (Message.Decide n commit reasons) (Answer.Decided p.0 p.1) catalog new)
      (sym is) (decide_left es moment n commit reasons catalog old new (record_at old n) refl cat h next alters) tokens

  -- what a Decide is answered
  decided_so :
      (fate : Fate) (commit : Bool)
      → Answer.Decided (fate_after fate commit).0 (fate_after fate commit).1
      ≡ decide_answer {K = K} {V = V} {A = A} {F = F} {B = B} true fate commit
  decided_so Undecided true = refl
  decided_so Undecided false = refl
  decided_so Committed commit = refl
  decided_so Cancelled commit = refl
  decided_so Gone commit = refl

  pub decide_answers :
      (l : Ledger A) (rs : ℕ → List (Reason V F)) (tokens : List ℕ → Option (KeptToken A)) (ledger : TxnLedger A (Reason V F)) (n : ℕ)
      (commit : Bool) (o : Option (Record A (Reason V F))) → o ≡ record_at ledger n → Keeps l rs tokens ledger
      → Answer.Decided (answer_to o commit).0 (answer_to o commit).1
      ≡ decide_answer {K = K} {V = V} {A = A} {F = F} {B = B} (has_record l n) (l.fate n) commit
  decide_answers l rs tokens ledger n commit None found h =
      ap (λ b. decide_answer b (l.fate n) commit) (sym (none_is l rs tokens ledger n h found))
  decide_answers l rs tokens ledger n commit (Some r) found h =
      decided_so r.fate commit
      ∙ ap (λ f. decide_answer true f commit) (h.records n r (sym found)).fate_is
      ∙ ap (λ b. decide_answer b (l.fate n) commit) (sym (there_is l rs tokens ledger n r h found))

  pub decide_answered :
      (l : Ledger A) (rs : ℕ → List (Reason V F)) (tokens : List ℕ → Option (KeptToken A)) (ledger : TxnLedger A (Reason V F)) (n : ℕ)
      (commit : Bool) (d : Fate × Bool) → d ≡ answer_to (record_at ledger n) commit → Keeps l rs tokens ledger
      → Answer.Decided d.0 d.1 ≡ decide_answer {K = K} {V = V} {A = A} {F = F} {B = B} (has_record l n) (l.fate n) commit
  decide_answered l rs tokens ledger n commit d is h =
      (λ j. Answer.Decided (is j).0 (is j).1) ∙ decide_answers l rs tokens ledger n commit (record_at ledger n) refl h

  -- of a message that changes nothing, where the ledger has the same under each number and token
  pub same_left :
      (es : History S) (moment : ℕ) (m : Asked S) (a : Reply S) (catalog : C) (old new : TxnLedger A (Reason V F))
      → IsQuiet moment m a → catalog ≡ (state S es).catalog → Keeps (state S es).ledger (reasons_of es) (kept es) old
      → next_of new ≡ next_of old → ((n : ℕ) → record_at new n ≡ record_at old n)
      → ((token : List ℕ) → kept_at new token ≡ kept_at old token) → Left es moment m a catalog new
  same_left es moment m a catalog old new quiet cat h next records tokens =
      let w : State K V A C = state S es in
      record {
        catalog_is = cat ∙ (λ j. (step S.core w (sym quiet.effect j)).catalog);
        keeps =
            subst
            (λ (e : Effect K A D).
            Keeps (step S.core w e).ledger (λ n. reasons_in n m a (reasons_of es n)) (λ token. kept_after moment m a token (kept es token)) new)
            (sym quiet.effect)
            (like w.ledger (reasons_of es) (λ n. reasons_in n m a (reasons_of es n)) (kept es) (λ token. kept_after moment m a token (kept es token))
            old new h next records (λ n. quiet.reasons n (reasons_of es n))
            (λ token. ap token_of (tokens token) ∙ h.tokens token ∙ sym (quiet.tokens token (kept es token))));
      }

  -- of a Done and of a Forget whose record is there
  pub done_left :
      (es : History S) (moment n : ℕ) (catalog : C) (old new : TxnLedger A (Reason V F)) (o : Option (Record A (Reason V F)))
      → o ≡ record_at old n → is_some o ≡ true → catalog ≡ (state S es).catalog
      → Keeps (state S es).ledger (reasons_of es) (kept es) old → next_of new ≡ next_of old
      → Alters old.records new.records n (option_map finished o)
      → ((token : List ℕ) → kept_at new token ≡ completed n moment (kept_at old token))
      → Left es moment (Message.Done n) Answer.Finished catalog new
  done_left es moment n catalog old new None found there cat h next alters tokens = absurd (cc)
  done_left es moment n catalog old new (Some r) found some cat h next alters tokens =
      let l : Ledger A = (state S es).ledger in
      let u : Ledger A = ledger_finished l n in
      let there : has_record l n ≡ true = there_is l (reasons_of es) (kept es) old n r h found in
      let q = h.records n r (sym found) in
      record {
        catalog_is = cat;
        keeps =
            changed l u (reasons_of es) (reasons_of es) (kept es) (λ token. core.completed n moment (kept es token)) old new n (Some (finished r)) h
            (drawn_of l n there) next refl alters
            (λ m ne. record { stamp = refl; actions = refl; fate = refl; done = at_other l.done n true m ne; gone = refl; reasons = refl })
            (sym there)
            (λ x is.
            subst (λ z. IsRecordOf u (reasons_of es n) n z) (some_is (finished r) x is)
            (record {
              stamp_is = q.stamp_is;
              actions_are = q.actions_are;
              fate_is = q.fate_is;
              reasons_are = q.reasons_are;
              done_is = sym (at_here l.done n true);
            }))
            (λ _. at_here l.done n true)
            (λ token. ap token_of (tokens token) ∙ completed_is n moment (kept_at old token) ∙ ap (core.completed n moment) (h.tokens token));
      }

  pub done_missing :
      (es : History S) (moment n : ℕ) (catalog : C) (old new : TxnLedger A (Reason V F)) → is_some (record_at old n) ≡ false
      → catalog ≡ (state S es).catalog → Keeps (state S es).ledger (reasons_of es) (kept es) old → next_of new ≡ next_of old
      → Alters old.records new.records n (option_map finished (record_at old n))
      → ((token : List ℕ) → kept_at new token ≡ kept_at old token) → Left es moment (Message.Done n) Answer.Nothing catalog new
  done_missing es moment n catalog old new none cat h next alters tokens =
      same_left es moment (Message.Done n) Answer.Nothing catalog old new
      (record { effect = refl; reasons = λ _ _. refl; tokens = λ _ _. refl }) cat h next
      (as_before old new n (option_map finished (record_at old n)) alters (unmoved finished (record_at old n) none)) tokens

  pub forget_missing :
      (es : History S) (moment n : ℕ) (catalog : C) (old new : TxnLedger A (Reason V F)) → is_some (record_at old n) ≡ false
      → catalog ≡ (state S es).catalog → Keeps (state S es).ledger (reasons_of es) (kept es) old → next_of new ≡ next_of old
      → Alters old.records new.records n None → ((token : List ℕ) → kept_at new token ≡ kept_at old token)
      → Left es moment (Message.Forget n) Answer.Nothing catalog new
  forget_missing es moment n catalog old new none cat h next alters tokens =
      same_left es moment (Message.Forget n) Answer.Nothing catalog old new
      (record { effect = refl; reasons = λ _ _. refl; tokens = λ _ _. refl }) cat h next
      (as_before old new n None alters (nothing (record_at old n) none)) tokens

  pub forget_left :
      (es : History S) (moment n : ℕ) (catalog : C) (old new : TxnLedger A (Reason V F)) (o : Option (Record A (Reason V F)))
      → o ≡ record_at old n → is_some o ≡ true → catalog ≡ (state S es).catalog → (state S es).ledger.done n ≡ true
      → Keeps (state S es).ledger (reasons_of es) (kept es) old → next_of new ≡ next_of old → Alters old.records new.records n None
      → ((token : List ℕ) → kept_at new token ≡ kept_at old token)
      → Left es moment (Message.Forget n) Answer.Forgotten catalog new
  forget_left es moment n catalog old new None found there cat done h next alters tokens = absurd (cc)
  forget_left es moment n catalog old new (Some r) found some cat done h next alters tokens =
      let l : Ledger A = (state S es).ledger in
      let u : Ledger A = ledger_forgot l n in
      let there : has_record l n ≡ true = there_is l (reasons_of es) (kept es) old n r h found in
      record {
        catalog_is = cat;
        keeps =
            changed l u (reasons_of es) (reasons_of es) (kept es) (kept es) old new n None h (drawn_of l n there) next refl alters
            (λ m ne. record { stamp = refl; actions = refl; fate = refl; done = refl; gone = at_other l.gone n true m ne; reasons = refl })
            (sym (no_record u n (at_here l.gone n true)))
            (λ x is. absurd (cc))
            (λ _. done)
            (λ token. ap token_of (tokens token) ∙ h.tokens token);
      }

  -- a number that is done stays so
  still_done : (w : State K V A C) (n : ℕ) (e : Effect K A D) → w.ledger.done n ≡ true → (step S.core w e).ledger.done n ≡ true
  still_done w n (Finished k) h = at_split w.ledger.done k true n (λ b. b ≡ true) (λ _. refl) (λ _. h)
  still_done w n (Wrote a moment) h = h
  still_done w n (Begun stamp actions) h = h
  still_done w n (Prepared k stamp a) h = h
  still_done w n (Commits k) h = h
  still_done w n (Cancels k) h = h
  still_done w n (Applied k key) h = h
  still_done w n (Released k key) h = h
  still_done w n (Forgot k) h = h
  still_done w n (Changed d moment) h = h
  still_done w n Quiet h = h

  -- a number that was finished is done
  finished_step :
      (w : State K V A C) (n moment : ℕ) (m : Asked S) (a : Reply S) → core.finishes n m a ≡ true
      → (step S.core w (effect_of moment m a)).ledger.done n ≡ true
  finished_step w n moment (Message.Done k) a is =
      let parts = both (nat_eq k n) (core.is_finished a) is in
      subst (λ b. (step S.core w (core.where_so b (Finished k))).ledger.done n ≡ true) (sym parts.1)
      (subst (λ i. at w.ledger.done i true n ≡ true) (sym (eqb-true k n parts.0)) (at_here w.ledger.done n true))
  finished_step w n moment _ a is = absurd (cc)

  pub was_finished : (es : History S) (n : ℕ) → core.Had (core.finishes n) es → (state S es).ledger.done n ≡ true
  was_finished [] n had = absurd (cc)
  was_finished (e ∷ es) n had = elim (cases_Bool (core.finishes n e.message e.answer)) [
    | inl now ↦ finished_step (state S es) n e.moment e.message e.answer now
    | inr other ↦
        still_done (state S es) n (effect_of e.moment e.message e.answer)
        (was_finished es n (sym (ap (λ b. b || list_any (λ x. core.finishes n x.message x.answer) es) other) ∙ had))
  ]

  -- what a Recall is answered, by the record
  pub known_answer :
      (l : Ledger A) (rs : ℕ → List (Reason V F)) (tokens : List ℕ → Option (KeptToken A)) (ledger : TxnLedger A (Reason V F)) (n : ℕ)
      (r : Record A (Reason V F)) → Some r ≡ record_at ledger n → Keeps l rs tokens ledger
      → Answer.Known r.fate r.stamp r.actions r.reasons
      ≡ recall_answer {K = K} {V = V} {A = A} {F = F} {B = B} (has_record l n) (l.fate n) (l.stamp n) (l.actions n) (rs n)
  known_answer l rs tokens ledger n r found h =
      let q = h.records n r (sym found) in
      (λ j. Answer.Known (q.fate_is j) (q.stamp_is j) (q.actions_are j) (q.reasons_are j))
      ∙ ap (λ b. recall_answer {K = K} {V = V} {A = A} {F = F} {B = B} b (l.fate n) (l.stamp n) (l.actions n) (rs n))
      (sym (there_is l rs tokens ledger n r h found))

  pub unknown_answer :
      (l : Ledger A) (rs : ℕ → List (Reason V F)) (tokens : List ℕ → Option (KeptToken A)) (ledger : TxnLedger A (Reason V F)) (n : ℕ)
      → None ≡ record_at ledger n → Keeps l rs tokens ledger
      → Answer.Unknown ≡ recall_answer {K = K} {V = V} {A = A} {F = F} {B = B} (has_record l n) (l.fate n) (l.stamp n) (l.actions n) (rs n)
  unknown_answer l rs tokens ledger n found h =
      ap (λ b. recall_answer {K = K} {V = V} {A = A} {F = F} {B = B} b (l.fate n) (l.stamp n) (l.actions n) (rs n))
      (sym (none_is l rs tokens ledger n h found))

  -- before the first entry
  none_below : (n : ℕ) → false ≡ (nat_le 1 n && (nat_lt n 1 && true))
  none_below n = elim (cases_Bool (nat_lt n 1)) [
    | inl below ↦ elim (cases_Bool (nat_le 1 n)) [
      | inl some ↦
          let lt : n < 1 = ltb-true n 1 below in
          let le : 1 ≤ n = leb-true 1 n some in
          absurd (omega arith)
      | inr none ↦ sym (ap (λ b. b && (nat_lt n 1 && true)) none)
    ]
    | inr past ↦ sym (ap (λ b. nat_le 1 n && (b && true)) past ∙ and-false (nat_le 1 n))
  ]

  pub empty_keeps :
      (ledger : TxnLedger A (Reason V F)) → next_of ledger ≡ 1 → ((n : ℕ) → record_at ledger n ≡ None)
      → ((token : List ℕ) → kept_at ledger token ≡ None) → Keeps (state S []).ledger (reasons_of {K = K} {V = V} {A = A} {F = F} {D = D} {Q = Q} {B = B} []) (kept {K = K} {V = V} {A = A} {F = F} {D = D} {Q = Q} {B = B} []) ledger
  empty_keeps ledger next none tokens =
      record {
        next_is = next;
        from_one = omega arith;
        recorded = λ n. ap is_some (none n) ∙ none_below n;
        records = λ n r found. absurd (let a : record_at ledger n ≡ None = none n in cc);
        undrawn = λ n past. record { undecided = refl; open_yet = refl; there = refl; no_reasons = refl };
        gone_are_done = λ n gone. absurd (cc);
        tokens = λ token. ap token_of (tokens token);
      }
