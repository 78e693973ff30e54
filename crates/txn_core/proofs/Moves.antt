-- What changes the one order, and what changes the version that an item is found with.
use Rattle.std.proofs.Common.{◌≡◌, ◌≢◌, ◌⊎◌, inl, inr, ℕ, Bool, true, false, ◌&&◌, nat_eq, List, [], ◌∷◌, ◌++◌, Option, is_some, if◌then◌else◌, refl, sym, ap, ◌∙◌}
use Rattle.std.specs.List.{list_any}
use Rattle.std.proofs.lemmas.Bool.{cond_both, eqb-false, or_parts}
use Rattle.txn_core.specs.declared.fate.Fate.{Fate}
use Rattle.txn_core.specs.declared.fate.Fate.TheVariants.{Undecided, Committed, Cancelled, Gone}
use Rattle.txn_core.specs.declared.reason.Reason.{Reason}
use Rattle.txn_core.specs.declared.message.Message.{Message}
use Rattle.txn_core.specs.declared.answer.Answer.{Answer}
use Rattle.txn_core.specs.declared.entry.Entry.{Entry}
use Rattle.txn_core.specs.Service.{Service, IsServiceLawful}
use Rattle.txn_core.specs.Effects.{Effect, Wrote, Prepared, Applied, Released, Finished, Forgot, Changed}
use Rattle.txn_core.specs.State.{Spot, State, holder, at, here, step, state_after, spot_prepared, spot_released}
use Rattle.txn_core.specs.Serial.{serial}
use Rattle.txn_core.specs.Answers.{has_record, decide_answer}
use Rattle.txn_core.specs.History.{is_first, tells_commit, is_written, is_expired, is_applied, where_so, begin_effect, decide_effect, effect_of, effects, Had, commits, cancels}
use Rattle.txn_core.specs.Legal.{IsAnswer, IsLegal}
use Rattle.txn_core.specs.Laws.{version_of, enters_order, changes_cell}
use Rattle.txn_core.proofs.Basics.{at_split}
use Rattle.txn_core.proofs.LegalRuns.{legal_facts}
use Rattle.txn_core.proofs.Locality.{IsAway, same_away}
use Rattle.txn_core.proofs.Causes.{version_is}

-- an effect that doesn't come to pass, or that enters no order
serial_where : {K A D : Type 0} (b : Bool) (x : Effect K A D) (xs : List (Effect K A D)) → serial (x ∷ xs) ≡ serial xs → serial (where_so b x ∷ xs) ≡ serial xs
serial_where true x xs h = h
serial_where false x xs h = refl

serial_decide : {K V A F D B : Type 0} (n : ℕ) (a : Answer K V A F B) (xs : List (Effect K A D)) → (is_first a && tells_commit a) ≡ false → serial (decide_effect n a ∷ xs) ≡ serial xs
serial_decide n (Answer.Decided Fate.Committed true) xs other = absurd (cc)
serial_decide n (Answer.Decided Fate.Cancelled true) xs other = refl
serial_decide n _ xs other = refl

serial_begin : {K V A F D B : Type 0} (actions : List A) (a : Answer K V A F B) (xs : List (Effect K A D)) → serial (begin_effect actions a ∷ xs) ≡ serial xs
serial_begin actions (Answer.Begun n stamp) xs = refl
serial_begin actions _ xs = refl

module _ {K V A F D Q B : Type 0} where
  pub others_leave_the_order : (e : Entry K V A F D Q B) (es : List (Entry K V A F D Q B)) → enters_order e.message e.answer ≡ false → serial (effects (e ∷ es)) ≡ serial (effects es)
  others_leave_the_order e es other = by_message e.message e.answer other
    where
      by_message : (m : Message K V A F D Q) (a : Answer K V A F B) → enters_order m a ≡ false → serial (effect_of e.moment m a ∷ effects es) ≡ serial (effects es)
      by_message (Message.Write action) a no' = ap (λ b. serial (where_so b (Wrote action e.moment) ∷ effects es)) no'
      by_message (Message.Expire action) a no' = ap (λ b. serial (where_so b (Wrote action e.moment) ∷ effects es)) no'
      by_message (Message.Command d) a no' = ap (λ b. serial (where_so b (Changed d e.moment) ∷ effects es)) no'
      by_message (Message.Decide n commit reasons) a no' = serial_decide n a (effects es) no'
      by_message (Message.Begin token actions) a no' = serial_begin actions a (effects es)
      by_message (Message.Prepare n stamp action) a no' = serial_where _ (Prepared n stamp action) (effects es) refl
      by_message (Message.Apply n key) a no' = serial_where _ (Applied n key) (effects es) refl
      by_message (Message.Release n key) a no' = serial_where _ (Released n key) (effects es) refl
      by_message (Message.Done n) a no' = serial_where _ (Finished n) (effects es) refl
      by_message (Message.Forget n) a no' = serial_where _ (Forgot n) (effects es) refl
      by_message _ a no' = refl

-- a decided number is decided no second time
again : (K V A F B : Type 0) (recorded : Bool) (fate : Fate) (commit : Bool) → (fate ≡ Committed) ⊎ (fate ≡ Cancelled) → is_first {K = K} {V = V} {A = A} {F = F} {B = B} (decide_answer recorded fate commit) ≡ false
again K V A F B false fate commit ends = refl
again K V A F B true Undecided commit (inl e) = absurd (cc)
again K V A F B true Undecided commit (inr e) = absurd (cc)
again K V A F B true Committed commit ends = refl
again K V A F B true Cancelled commit ends = refl
again K V A F B true Gone commit ends = refl

module _ {K V A F C D Q B : Type 0} (S : Service K V A F C D Q B) (law : IsServiceLawful S) where
  pub first_decision_stands : (es : List (Entry K V A F D Q B)) → IsLegal S es → (n : ℕ) → Had (commits n) es ⊎ Had (cancels n) es → (moment : ℕ) (commit : Bool) (reasons : List (Reason V F)) (a : Answer K V A F B) → IsAnswer S es moment (Message.Decide n commit reasons) a → is_first a ≡ false
  first_decision_stands es legal n before moment commit reasons a is =
      let l = (state_after S.core (effects es)).ledger in
      ap (λ x. is_first x) is ∙ again K V A F B (has_record l n) (l.fate n) commit (ended before)
    where
      ended : Had (commits n) es ⊎ Had (cancels n) es → ((state_after S.core (effects es)).ledger.fate n ≡ Committed) ⊎ ((state_after S.core (effects es)).ledger.fate n ≡ Cancelled)
      ended (inl h) = inl ((legal_facts S law es legal).1.committed n h)
      ended (inr h) = inr ((legal_facts S law es legal).1.cancelled n h)

  module _ (w : State K V A C) (q : K) where
    -- who holds an item is nothing to its version
    version_on_key : (k : K) (f : Spot V → Spot V) → ((s : Spot V) → (f s).row ≡ s.row) → ((s : Spot V) → (f s).version ≡ s.version) → (u : State K V A C) → u.spot q ≡ (if S.core.same k q then f (w.spot q) else w.spot q) → here S.core u q ≡ here S.core w q → version_of S.core u q ≡ version_of S.core w q
    version_on_key k f row version u spot cell =
        (λ j. if is_some (spot j).row then (spot j).version else (cell j).gone)
        ∙ cond_both (S.core.same k q) (f (w.spot q)) (w.spot q) (λ s. (if is_some s.row then s.version else (here S.core w q).gone) ≡ version_of S.core w q)
        (λ _ j. if is_some (row (w.spot q) j) then version (w.spot q) j else (here S.core w q).gone)
        (λ _. refl)

    same_cell : (k : K) → at w.cell (S.core.cell_of k) (here S.core w k) (S.core.cell_of q) ≡ here S.core w q
    same_cell k = at_split w.cell (S.core.cell_of k) (here S.core w k) (S.core.cell_of q) (λ c. c ≡ here S.core w q) (λ e. ap (λ i. w.cell i) e) (λ _. refl)

    version_away : (e : Effect K A D) → IsAway S.core law.core (S.core.cell_of q) e → version_of S.core (step S.core w e) q ≡ version_of S.core w q
    version_away e away =
        let s = same_away S.core law.core (S.core.cell_of q) w w (record { items = λ x at. refl; numbers = refl; catalog = refl }) e away in
        sym (λ j. let x = s.items q refl j in if is_some x.row then x.version else (s.numbers j).gone)

    version_where : (b : Bool) (e : Effect K A D) → version_of S.core (step S.core w e) q ≡ version_of S.core w q → version_of S.core (step S.core w (where_so b e)) q ≡ version_of S.core w q
    version_where true e h = h
    version_where false e h = refl

    -- a change of an item of another cell, or none
    version_unless : (i : ℕ) (b : Bool) (e : Effect K A D) → ((i ≡ S.core.cell_of q → ⊥) → IsAway S.core law.core (S.core.cell_of q) e) → (nat_eq i (S.core.cell_of q) && b) ≡ false → version_of S.core (step S.core w (where_so b e)) q ≡ version_of S.core w q
    version_unless i false e away other = refl
    version_unless i true e away other = version_away e (away (eqb-false i (S.core.cell_of q) (by_test (nat_eq i (S.core.cell_of q)) other)))
      where
        by_test : (b : Bool) → (b && true) ≡ false → b ≡ false
        by_test true h = h
        by_test false h = refl

    version_decide : (n : ℕ) (a : Answer K V A F B) → version_of S.core (step S.core w (decide_effect {D = D} n a)) q ≡ version_of S.core w q
    version_decide n (Answer.Decided Fate.Committed true) = refl
    version_decide n (Answer.Decided Fate.Cancelled true) = refl
    version_decide n _ = refl

    version_begin : (actions : List A) (a : Answer K V A F B) → version_of S.core (step S.core w (begin_effect {D = D} actions a)) q ≡ version_of S.core w q
    version_begin actions (Answer.Begun n stamp) = refl
    version_begin actions _ = refl

    version_entry : (moment : ℕ) (m : Message K V A F D Q) (a : Answer K V A F B) → changes_cell S (S.core.cell_of q) m a ≡ false → version_of S.core (step S.core w (effect_of moment m a)) q ≡ version_of S.core w q
    version_entry moment (Message.Write action) a other = version_unless (S.core.cell_of (S.core.key_of action)) (is_written a) (Wrote action moment) (λ away. away) other
    version_entry moment (Message.Expire action) a other = version_unless (S.core.cell_of (S.core.key_of action)) (is_expired a) (Wrote action moment) (λ away. away) other
    version_entry moment (Message.Apply n key) a other = version_unless (S.core.cell_of key) (is_applied a) (Applied n key) (λ away. away) other
    version_entry moment (Message.Command d) a other = ap (λ b. version_of S.core (step S.core w (where_so b (Changed d moment))) q) other
    version_entry moment (Message.Prepare n stamp action) a other =
        version_where _ (Prepared n stamp action)
        (version_on_key (S.core.key_of action) (spot_prepared S.core w.catalog n stamp action) (λ s. refl) (λ s. refl) (step S.core w (Prepared n stamp action)) refl (same_cell (S.core.key_of action)))
    version_entry moment (Message.Release n key) a other =
        version_where _ (Released n key) (version_on_key key (λ s. spot_released s) (λ s. refl) (λ s. refl) (step S.core w (Released n key)) refl (same_cell key))
    version_entry moment (Message.Begin token actions) a other = version_begin actions a
    version_entry moment (Message.Decide n commit reasons) a other = version_decide n a
    version_entry moment (Message.Done n) a other = version_where _ (Finished n) refl
    version_entry moment (Message.Forget n) a other = version_where _ (Forgot n) refl
    version_entry moment _ a other = refl

  version_stays : (newer es : List (Entry K V A F D Q B)) (q : K) → list_any (λ e. changes_cell S (S.core.cell_of q) e.message e.answer) newer ≡ false → version_of S.core (state_after S.core (effects (newer ++ es))) q ≡ version_of S.core (state_after S.core (effects es)) q
  version_stays [] es q none = refl
  version_stays (e ∷ newer) es q none =
      let parts = or_parts (changes_cell S (S.core.cell_of q) e.message e.answer) (list_any (λ x. changes_cell S (S.core.cell_of q) x.message x.answer) newer) none in
      version_entry (state_after S.core (effects (newer ++ es))) q e.moment e.message e.answer parts.0 ∙ version_stays newer es q parts.1

  pub moved_is_real : (newer es : List (Entry K V A F D Q B)) (t u : ℕ) (key : K) (first second : Option V) (v w : ℕ) (h k : Option ℕ) → IsAnswer S es t (Message.ReadVersion key) (Answer.Version first v h) → IsAnswer S (newer ++ es) u (Message.ReadVersion key) (Answer.Version second w k) → v ≢ w → Had (changes_cell S (S.core.cell_of key)) newer
  moved_is_real newer es t u key first second v w h k one two differ = by_test (list_any (λ e. changes_cell S (S.core.cell_of key) e.message e.answer) newer) refl
    where
      by_test : (b : Bool) → list_any (λ e. changes_cell S (S.core.cell_of key) e.message e.answer) newer ≡ b → list_any (λ e. changes_cell S (S.core.cell_of key) e.message e.answer) newer ≡ true
      by_test true is = is
      by_test false none =
          let x = state_after S.core (effects es) in
          let y = state_after S.core (effects (newer ++ es)) in
          let a = version_is (S.core.there x.catalog key) (x.spot key).row (x.spot key).version (here S.core x key).gone (holder (x.spot key).pend) first v h (sym one) in
          let b = version_is (S.core.there y.catalog key) (y.spot key).row (y.spot key).version (here S.core y key).gone (holder (y.spot key).pend) second w k (sym two) in
          absurd (differ (sym a.2 ∙ sym (version_stays newer es key none) ∙ b.2))
