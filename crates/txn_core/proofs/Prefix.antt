-- What a beginning of a history allows, the whole of it allows.
use Rattle.std.proofs.Common.{◌≡◌, ◌⊎◌, inl, inr, ℕ, suc, Bool, true, false, List, [], ◌∷◌, ◌++◌, sym, ap, ◌∙◌, subst, arith}
use Rattle.std.specs.Prelude.{All, Any, slice_index_or}
use Rattle.std.specs.List.{list_any}
use Rattle.std.proofs.lemmas.Bool.{or_right}
use Rattle.txn_core.specs.declared.reason.Reason.{Reason}
use Rattle.txn_core.specs.declared.message.Message.{Message}
use Rattle.txn_core.specs.declared.answer.Answer.{Answer}
use Rattle.txn_core.specs.declared.entry.Entry.{Entry}
use Rattle.txn_core.specs.Service.{Service, IsServiceLawful}
use Rattle.txn_core.specs.State.{on_item, state_after}
use Rattle.txn_core.specs.Serial.{begun_stamp, begun_actions}
use Rattle.txn_core.specs.History.{effect, effects, Had, begins, commits, cancels, finishes, forgets, finds_no_table, is_own_begin}
use Rattle.txn_core.specs.Legal.{accepts, applies, releases, feeds, AreTold, HasCause, HasGround, Allowed, Follows, IsLegal}
use Rattle.txn_core.proofs.Readings.{actions_read, stamp_read}
use Rattle.txn_core.proofs.Grows.{grows}
use Rattle.txn_core.proofs.LegalRuns.{legal_facts, legal_run}

-- a beginning of a legal history is legal
pub legal_before : {K V A F C D Q B : Type 0} (S : Service K V A F C D Q B) (newer es : List (Entry K V A F D Q B)) → IsLegal S (newer ++ es) → IsLegal S es
legal_before S [] es legal = legal
legal_before S (e ∷ newer) es legal = legal_before S newer es legal.0

-- each entry of a legal history may come after those before it
pub follows_at : {K V A F C D Q B : Type 0} (S : Service K V A F C D Q B) (newer : List (Entry K V A F D Q B)) (e : Entry K V A F D Q B) (es : List (Entry K V A F D Q B)) → IsLegal S (newer ++ (e ∷ es)) → Follows S es e
follows_at S newer e es legal = (legal_before S newer (e ∷ es) legal).1

-- what was had is had later
pub had_more : {K V A F D Q B : Type 0} (test : Message K V A F D Q → Answer K V A F B → Bool) (e : Entry K V A F D Q B) (es : List (Entry K V A F D Q B)) → Had test es → Had test (e ∷ es)
had_more test e es h = or_right (test e.message e.answer) (list_any (λ x. test x.message x.answer) es) h

pub had_stays : {K V A F D Q B : Type 0} (test : Message K V A F D Q → Answer K V A F B → Bool) (newer es : List (Entry K V A F D Q B)) → Had test es → Had test (newer ++ es)
had_stays test [] es h = h
had_stays test (e ∷ newer) es h = had_more test e (newer ++ es) (had_stays test newer es h)

-- what each of a list had, it has later
pub each_stays : {K V A F D Q B X : Type 0} (test : X → Message K V A F D Q → Answer K V A F B → Bool) (newer es : List (Entry K V A F D Q B)) (xs : List X) → All (λ x. Had (test x) es) xs → All (λ x. Had (test x) (newer ++ es)) xs
each_stays test newer es xs h = λ k d lt. had_stays (test (slice_index_or xs k d)) newer es (h k d lt)

pub any_more : {X : Type 0} (Q : X → Type 0) (x : X) (xs : List X) → Any Q xs → Any Q (x ∷ xs)
any_more Q x xs (k, y, lt, is, q) = (suc k, y, omega arith, is, q)

module _ {K V A F C D Q B : Type 0} (S : Service K V A F C D Q B) (law : IsServiceLawful S) (e : Entry K V A F D Q B) (es : List (Entry K V A F D Q B)) (legal : IsLegal S (e ∷ es)) where
  -- the actions and the stamp of a begun number stay
  pub same_actions : (n : ℕ) → Had (begins n) es → begun_actions (effects es) n ≡ begun_actions (effects (e ∷ es)) n
  same_actions n h =
      let run = legal_run S law (e ∷ es) legal in
      let more = grows S.core (state_after S.core (effects es)) (effect e) run.1 in
      sym (actions_read S.core (effects es) run.0 n) ∙ sym (more.actions n ((legal_facts S law es legal.0).1.begun n h)) ∙ actions_read S.core (effects (e ∷ es)) run n

  pub same_stamp : (n : ℕ) → Had (begins n) es → begun_stamp (effects es) n ≡ begun_stamp (effects (e ∷ es)) n
  same_stamp n h =
      let run = legal_run S law (e ∷ es) legal in
      let more = grows S.core (state_after S.core (effects es)) (effect e) run.1 in
      sym (stamp_read S.core (effects es) run.0 n) ∙ sym (more.stamp n ((legal_facts S law es legal.0).1.begun n h)) ∙ stamp_read S.core (effects (e ∷ es)) run n

  told_more : (n : ℕ) (actions : List A) (reasons : List (Reason V F)) → AreTold S es n actions reasons → AreTold S (e ∷ es) n actions reasons
  told_more n [] [] h = tt
  told_more n (a ∷ actions) (r ∷ reasons) h = (any_more (λ x. _) e es h.0, told_more n actions reasons h.1)
  told_more n [] (r ∷ reasons) h = h
  told_more n (a ∷ actions) [] h = h

  cause_more : (n : ℕ) (actions : List A) (reasons : List (Reason V F)) → HasCause S es n actions reasons → HasCause S (e ∷ es) n actions reasons
  cause_more n actions reasons (inl h) = inl (told_more n actions reasons h.0, h.1)
  cause_more n actions reasons (inr h) = inr (had_more (finds_no_table n) e es h.0, h.1, h.2)

  ground_more : (n : ℕ) (commit : Bool) (reasons : List (Reason V F)) → Had (begins n) es → HasGround S es n commit reasons → HasGround S (e ∷ es) n commit reasons
  ground_more n true reasons begun h =
      subst (λ xs. All (λ x. Had (accepts S n (S.core.key_of x)) (e ∷ es)) xs) (same_actions n begun)
      (λ k d lt. had_more (accepts S n (S.core.key_of (slice_index_or (begun_actions (effects es) n) k d))) e es (h k d lt))
  ground_more n false reasons begun h =
      subst (λ xs. HasCause S (e ∷ es) n xs reasons) (same_actions n begun) (cause_more n (begun_actions (effects es) n) reasons h)

  pub allowed_more : (pass : ℕ) (m : Message K V A F D Q) → Allowed S es pass m → Allowed S (e ∷ es) pass m
  allowed_more pass (Message.Prepare n stamp action) h = (
    had_more (begins n) e es h.0,
    h.1 ∙ same_stamp n h.0,
    ap (λ xs. on_item S.core xs (S.core.key_of action)) (sym (same_actions n h.0)) ∙ h.2,
  )
  allowed_more pass (Message.Decide n commit reasons) h = (had_more (begins n) e es h.0, ground_more n commit reasons h.0 h.1)
  allowed_more pass (Message.Apply n key) h = had_more (commits n) e es h
  allowed_more pass (Message.Release n key) (inl h) = inl (had_more (cancels n) e es h)
  allowed_more pass (Message.Release n key) (inr h) = inr (had_more (forgets n) e es h)
  allowed_more pass (Message.Done n) h = (had_more (begins n) e es h.0, finish h.1)
    where
      finish : ((Had (commits n) es × All (λ x. Had (applies S n (S.core.key_of x)) es) (begun_actions (effects es) n)) ⊎ (Had (cancels n) es × All (λ x. Had (releases S n (S.core.key_of x)) es) (begun_actions (effects es) n))) → ((Had (commits n) (e ∷ es) × All (λ x. Had (applies S n (S.core.key_of x)) (e ∷ es)) (begun_actions (effects (e ∷ es)) n)) ⊎ (Had (cancels n) (e ∷ es) × All (λ x. Had (releases S n (S.core.key_of x)) (e ∷ es)) (begun_actions (effects (e ∷ es)) n)))
      finish (inl (c, each)) =
          inl (
            had_more (commits n) e es c,
            subst (λ xs. All (λ x. Had (applies S n (S.core.key_of x)) (e ∷ es)) xs) (same_actions n h.0)
                (λ k d lt. had_more (applies S n (S.core.key_of (slice_index_or (begun_actions (effects es) n) k d))) e es (each k d lt)),
          )
      finish (inr (c, each)) =
          inr (
            had_more (cancels n) e es c,
            subst (λ xs. All (λ x. Had (releases S n (S.core.key_of x)) (e ∷ es)) xs) (same_actions n h.0)
                (λ k d lt. had_more (releases S n (S.core.key_of (slice_index_or (begun_actions (effects es) n) k d))) e es (each k d lt)),
          )
  allowed_more pass (Message.Forget n) h = (had_more (finishes n) e es h.0, or_right (is_own_begin pass n e) (list_any (is_own_begin pass n) es) h.1)
  allowed_more pass (Message.ApplyIndex source sequence index row_key after) h = any_more (λ x. _) e es h
  allowed_more pass (Message.Ack source sequence) h = had_more (feeds S source sequence) e es h
  allowed_more pass (Message.QueryPage page) h = h
  allowed_more pass (Message.ScanPage page) h = h
  allowed_more pass (Message.ExpiredKeys cell limit) h = h
  allowed_more pass (Message.Pendings cell) h = h
  allowed_more pass (Message.PeekOut source) h = h
  allowed_more pass (Message.Begin token actions) h = h
  allowed_more pass (Message.Get key) h = h
  allowed_more pass (Message.Write action) h = h
  allowed_more pass (Message.Expire action) h = h
  allowed_more pass (Message.ReadVersion key) h = h
  allowed_more pass (Message.FateOf n) h = h
  allowed_more pass (Message.Recall n) h = h
  allowed_more pass Message.Unfinished h = h
  allowed_more pass (Message.Ask question) h = h
  allowed_more pass (Message.Command d) h = h

-- what was allowed after a beginning is allowed after the whole
pub still_allowed : {K V A F C D Q B : Type 0} (S : Service K V A F C D Q B) (law : IsServiceLawful S) (newer es : List (Entry K V A F D Q B)) → IsLegal S (newer ++ es) → (pass : ℕ) (m : Message K V A F D Q) → Allowed S es pass m → Allowed S (newer ++ es) pass m
still_allowed S law [] es legal pass m h = h
still_allowed S law (e ∷ newer) es legal pass m h = allowed_more S law e (newer ++ es) legal pass m (still_allowed S law newer es legal.0 pass m h)
