-- Refusals name their real cause, and a Get is what readers are shown.
use Rattle.std.proofs.Common.{◌≡◌, ◌≢◌, inl, inr, ℕ, Bool, true, false, nat_eq, List, [], ◌∷◌, ◌++◌, Option, None, Some, if◌then◌else◌, is_some, refl, sym, ap, ◌∙◌, subst}
use Rattle.std.specs.List.{list_all}
use Rattle.std.proofs.lemmas.Bool.{cond_both, eqb-false}
use Rattle.txn_core.specs.declared.stamp.Stamp.{Stamp}
use Rattle.txn_core.specs.declared.fate.Fate.{Fate}
use Rattle.txn_core.specs.declared.fate.Fate.TheVariants.{Undecided, Committed, Cancelled, Gone}
use Rattle.txn_core.specs.declared.message.Message.{Message}
use Rattle.txn_core.specs.declared.answer.Answer.{Answer}
use Rattle.txn_core.specs.declared.entry.Entry.{Entry}
use Rattle.txn_core.specs.Stamps.{earlier, IsBy}
use Rattle.txn_core.specs.declared.outcome.Outcome.{Outcome}
use Rattle.txn_core.specs.declared.outcome.Outcome.TheVariants.{New, Unmet, Fails}
use Rattle.txn_core.specs.declared.ruling.Ruling.{Ruling}
use Rattle.txn_core.specs.declared.ruling.Ruling.TheVariants.{Carries, Refuses}
use Rattle.txn_core.specs.Service.{Service, IsServiceLawful}
use Rattle.txn_core.specs.State.{holder, last, here, state_after}
use Rattle.txn_core.specs.Serial.{serial, tables, shown}
use Rattle.txn_core.specs.Answers.{KeptToken, get_answer, write_answer, expire_answer, outcome_answer, prepare_answer, is_holder, version_answer, begin_answer, has_record, decide_answer, recall_answer, page_answer, out_answer}
use Rattle.txn_core.specs.Effects.{Effect}
use Rattle.txn_core.specs.Runs.{IsRun}
use Rattle.txn_core.specs.History.{effect, effects, found_kept, reasons_of}
use Rattle.index_feed.specs.Feed.{Out}
use Rattle.txn_core.specs.Feeding.{change, has_sequence, rows_for}
use Rattle.txn_core.specs.Legal.{only_expired, ruling_answer, IsRuled, IsInTheWay, out_after, feeds_after, IsAnswer, IsLegal}
use Rattle.txn_core.specs.Laws.{version_of, IsRealHolder, last_by}
use Rattle.txn_core.proofs.LegalRuns.{legal_run}
use Rattle.txn_core.proofs.SerialLaws.{rows_are_shown}
use Rattle.txn_core.proofs.Versions.{one_point}

module _ {K V A F B : Type 0} where
  abbrev HeldIn : Answer K V A F B → ℕ → Type 0
  HeldIn a n = a ≡ Answer.Held n

  write_held : (b : Bool) (h : Option ℕ) (row : Option V) (o : Outcome V F) (n : ℕ) → HeldIn (write_answer b h row o) n → h ≡ Some n
  write_held false h row o n e = absurd (cc)
  write_held true (Some m) row o n e = cc
  write_held true None row (New v) n e = absurd (cc)
  write_held true None row Unmet n e = absurd (cc)
  write_held true None row (Fails fault) n e = absurd (cc)

  expire_held : (b : Bool) (h : Option ℕ) (over : Option V) (o : Outcome V F) (n : ℕ) → HeldIn (expire_answer b h over o) n → h ≡ Some n
  expire_held false h over o n e = absurd (cc)
  expire_held true (Some m) over o n e = cc
  expire_held true None None o n e = absurd (cc)
  expire_held true None (Some old) (New None) n e = absurd (cc)
  expire_held true None (Some old) (New (Some v)) n e = absurd (cc)
  expire_held true None (Some old) Unmet n e = absurd (cc)
  expire_held true None (Some old) (Fails fault) n e = absurd (cc)

  outcome_held : (row : Option V) (o : Outcome V F) (n : ℕ) → HeldIn (outcome_answer row o) n → ⊥
  outcome_held row (New v) n e = cc
  outcome_held row Unmet n e = cc
  outcome_held row (Fails fault) n e = cc

  prepare_held : (b : Bool) (h : Option ℕ) (m : ℕ) (before stamp : Stamp) (row : Option V) (o : Outcome V F) (n : ℕ) → HeldIn (prepare_answer b h m before stamp row o) n → (h ≡ Some n) × (n ≢ m)
  prepare_held false h m before stamp row o n e = absurd (cc)
  prepare_held true (Some k) m before stamp row o n e =
      cond_both (nat_eq k m) Answer.Accepted (Answer.Held k) (λ x. HeldIn x n → (Some k ≡ Some n) × (n ≢ m))
      (λ t h. absurd (cc))
      (λ t h. let same : k ≡ n = cc in (ap Some same, λ f. eqb-false k m t (same ∙ f))) e
  prepare_held true None m before stamp row o n e =
      cond_both (earlier before stamp) (outcome_answer row o) (Answer.Late before) (λ x. HeldIn x n → (None ≡ Some n) × (n ≢ m))
      (λ t h. absurd (outcome_held row o n h))
      (λ t h. absurd (cc)) e

  abbrev LateIn : Answer K V A F B → Stamp → Type 0
  LateIn a t = a ≡ Answer.Late t

  outcome_late : (row : Option V) (o : Outcome V F) (t : Stamp) → LateIn (outcome_answer row o) t → ⊥
  outcome_late row (New v) t e = cc
  outcome_late row Unmet t e = cc
  outcome_late row (Fails fault) t e = cc

  prepare_late : (b : Bool) (h : Option ℕ) (m : ℕ) (before stamp : Stamp) (row : Option V) (o : Outcome V F) (t : Stamp) → LateIn (prepare_answer b h m before stamp row o) t → (t ≡ before) × (earlier before stamp ≡ false)
  prepare_late false h m before stamp row o t e = absurd (cc)
  prepare_late true (Some k) m before stamp row o t e =
      cond_both (nat_eq k m) Answer.Accepted (Answer.Held k) (λ x. LateIn x t → (t ≡ before) × (earlier before stamp ≡ false)) (λ _ h. absurd (cc)) (λ _ h. absurd (cc)) e
  prepare_late true None m before stamp row o t e =
      cond_both (earlier before stamp) (outcome_answer row o) (Answer.Late before) (λ x. LateIn x t → (t ≡ before) × (earlier before stamp ≡ false))
      (λ is h. absurd (outcome_late row o t h))
      (λ is h. (cc, is)) e

  get_row : (b : Bool) (row v : Option V) → get_answer {K = K} {V = V} {A = A} {F = F} {B = B} b row ≡ Answer.Row v → v ≡ row
  get_row false row v e = absurd (cc)
  get_row true row v e = cc

-- answers of the other messages, which are neither Held nor Late
module _ {K V A F B : Type 0} (P : Answer K V A F B → Type 0) where
  begin_other : (same : List A → List A → Bool) (b : Bool) (o : Option (KeptToken A)) (actions : List A) (stamp : Stamp) → P Answer.Stale → ((n : ℕ) (s : Stamp) → P (Answer.Begun n s)) → ((n : ℕ) → P (Answer.Repeat n)) → ((n : ℕ) → P (Answer.Running n)) → ((n : ℕ) → P (Answer.Mismatch n)) → P (begin_answer same b o actions stamp)
  begin_other same false o actions stamp stale begun again running mismatch = stale
  begin_other same true None actions stamp stale begun again running mismatch = begun stamp.number stamp
  begin_other same true (Some kept) actions stamp stale begun again running mismatch =
      cond_both (same kept.actions actions) (if is_some kept.completed then Answer.Repeat kept.number else Answer.Running kept.number) (Answer.Mismatch kept.number) P
      (λ _. cond_both (is_some kept.completed) (Answer.Repeat kept.number) (Answer.Running kept.number) P (λ _. again kept.number) (λ _. running kept.number))
      (λ _. mismatch kept.number)

  decide_other : (b : Bool) (f : Fate) (commit : Bool) → ((g : Fate) (first : Bool) → P (Answer.Decided g first)) → P (decide_answer b f commit)
  decide_other false f commit d = d Fate.Gone false
  decide_other true Undecided true d = d Committed true
  decide_other true Undecided false d = d Cancelled true
  decide_other true Committed commit d = d Committed false
  decide_other true Cancelled commit d = d Cancelled false
  decide_other true Gone commit d = d Gone false

module _ {K V A F C D Q B : Type 0} (S : Service K V A F C D Q B) (law : IsServiceLawful S) where
  page_other : (b : Bool) (told : B) (n : ℕ) → HeldIn {K = K} {V = V} {A = A} {F = F} {B = B} (page_answer b told) n → ⊥
  page_other true told n e = cc
  page_other false told n e = cc

  out_other : (o : Option (Out K V)) (n : ℕ) → HeldIn {K = K} {V = V} {A = A} {F = F} {B = B} (out_answer S.core.cell_of o) n → ⊥
  out_other None n e = cc
  out_other (Some o) n e = cc

  pub real_holder : (es : List (Entry K V A F D Q B)) (moment : ℕ) (m : Message K V A F D Q) (n : ℕ) → IsAnswer S es moment m (Answer.Held n) → IsRealHolder S es m n
  real_holder es moment (Message.Write action) n is =
      let w = state_after S.core (effects es) in
      write_held (S.core.there w.catalog (S.core.key_of action)) (holder (w.spot (S.core.key_of action)).pend) (w.spot (S.core.key_of action)).row (S.core.act w.catalog action (w.spot (S.core.key_of action)).row) n (sym is)
  real_holder es moment (Message.Expire action) n is =
      let w = state_after S.core (effects es) in
      let k = S.core.key_of action in
      expire_held (S.core.there w.catalog k) (holder (w.spot k).pend) (only_expired S w.catalog k moment (w.spot k).row) (S.core.act w.catalog action (w.spot k).row) n (sym is)
  real_holder es moment (Message.Prepare m stamp action) n is =
      let w = state_after S.core (effects es) in
      prepare_held (S.core.there w.catalog (S.core.key_of action)) (holder (w.spot (S.core.key_of action)).pend) m (last (here S.core w (S.core.key_of action)) (w.spot (S.core.key_of action))) stamp (w.spot (S.core.key_of action)).row (S.core.act w.catalog action (w.spot (S.core.key_of action)).row) n (sym is)
  real_holder es moment (Message.Command d) n is = ruled (S.refuses d (state_after S.core (effects es)).catalog) is
    where
      ruled : (o : Option B) → IsRuled S (state_after S.core (effects es)) d moment o (Answer.Held n) → IsInTheWay S (state_after S.core (effects es)) d n
      ruled (Some told) e = absurd (cc)
      ruled None (inl (m, e, way)) = let same : m ≡ n = cc in subst (λ x. IsInTheWay S (state_after S.core (effects es)) d x) same way
      ruled None (inr (e, clear)) = by_ruling (S.rules d moment (state_after S.core (effects es)).catalog) e
        where
          by_ruling : (r : Ruling B) → Answer.Held n ≡ ruling_answer S r → IsInTheWay S (state_after S.core (effects es)) d n
          by_ruling (Carries told) e = absurd (cc)
          by_ruling (Refuses told) e = absurd (cc)
  real_holder es moment (Message.Get key) n is = get_other (S.core.there (state_after S.core (effects es)).catalog key) (sym is)
    where
      get_other : (b : Bool) → HeldIn {K = K} {V = V} {A = A} {F = F} {B = B} (get_answer b ((state_after S.core (effects es)).spot key).row) n → ⊥
      get_other true e = cc
      get_other false e = cc
  real_holder es moment (Message.ReadVersion key) n is = version_other (S.core.there (state_after S.core (effects es)).catalog key) (sym is)
    where
      version_other : (b : Bool) → HeldIn {K = K} {V = V} {A = A} {F = F} {B = B} (version_answer b ((state_after S.core (effects es)).spot key).row ((state_after S.core (effects es)).spot key).version (here S.core (state_after S.core (effects es)) key).gone (holder ((state_after S.core (effects es)).spot key).pend)) n → ⊥
      version_other true e = cc
      version_other false e = cc
  real_holder es moment (Message.Apply m key) n is =
      cond_both (is_holder (holder ((state_after S.core (effects es)).spot key).pend) m) Answer.Applied Answer.Nothing (λ x. Answer.Held n ≡ x → ⊥) (λ _ e. cc) (λ _ e. cc) is
  real_holder es moment (Message.Release m key) n is =
      cond_both (is_holder (holder ((state_after S.core (effects es)).spot key).pend) m) Answer.Released Answer.Nothing (λ x. Answer.Held n ≡ x → ⊥) (λ _ e. cc) (λ _ e. cc) is
  real_holder es moment (Message.Begin token actions) n is =
      begin_other (λ x. Answer.Held n ≡ x → ⊥) S.same_actions (list_all (λ x. S.core.there (state_after S.core (effects es)).catalog (S.core.key_of x)) actions) (found_kept es moment token) actions (record { moment = moment; number = (state_after S.core (effects es)).ledger.next })
      (λ e. cc) (λ m s e. cc) (λ m e. cc) (λ m e. cc) (λ m e. cc) is
  real_holder es moment (Message.Decide m commit reasons) n is =
      decide_other (λ x. Answer.Held n ≡ x → ⊥) (has_record (state_after S.core (effects es)).ledger m) ((state_after S.core (effects es)).ledger.fate m) commit (λ g first e. cc) is
  real_holder es moment (Message.Done m) n is =
      cond_both (has_record (state_after S.core (effects es)).ledger m) Answer.Finished Answer.Nothing (λ x. Answer.Held n ≡ x → ⊥) (λ _ e. cc) (λ _ e. cc) is
  real_holder es moment (Message.Forget m) n is =
      cond_both (has_record (state_after S.core (effects es)).ledger m) Answer.Forgotten Answer.Nothing (λ x. Answer.Held n ≡ x → ⊥) (λ _ e. cc) (λ _ e. cc) is
  real_holder es moment (Message.FateOf m) n is = cc
  real_holder es moment (Message.Recall m) n is = recall_other (has_record (state_after S.core (effects es)).ledger m) (sym is)
    where
      recall_other : (b : Bool) → HeldIn {K = K} {V = V} {A = A} {F = F} {B = B} (recall_answer b ((state_after S.core (effects es)).ledger.fate m) ((state_after S.core (effects es)).ledger.stamp m) ((state_after S.core (effects es)).ledger.actions m) (reasons_of es m)) n → ⊥
      recall_other true e = cc
      recall_other false e = cc
  real_holder es moment Message.Unfinished n is = cc
  real_holder es moment (Message.Ask question) n is = cc
  real_holder es moment (Message.QueryPage page) n is =
      let c = (state_after S.core (effects es)).catalog in
      page_other (S.serves c page) (S.page c (rows_for S es (S.page_cell page) (S.page_index page)) page) n (sym is)
  real_holder es moment (Message.ScanPage page) n is =
      let c = (state_after S.core (effects es)).catalog in
      page_other (S.serves c page) (S.page c (rows_for S es (S.page_cell page) (S.page_index page)) page) n (sym is)
  real_holder es moment (Message.ExpiredKeys cell limit) n is = let h = is.1 in cc
  real_holder es moment (Message.Pendings cell) n is = is.1
  real_holder es moment (Message.PeekOut source) n is = out_other (out_after S es source) n (sym is.1)
  real_holder es moment (Message.ApplyIndex source sequence index row_key after) n is =
      cond_both (feeds_after S es source sequence (change index row_key after)) Answer.Fed Answer.Already (λ x. Answer.Held n ≡ x → ⊥) (λ _ e. cc) (λ _ e. cc) is
  real_holder es moment (Message.Ack source sequence) n is =
      cond_both (has_sequence (out_after S es source) sequence) Answer.Acked Answer.Nothing (λ x. Answer.Held n ≡ x → ⊥) (λ _ e. cc) (λ _ e. cc) is.1

  -- a Late, of a Prepare
  pub late_stamp : (es : List (Entry K V A F D Q B)) (moment : ℕ) (n : ℕ) (stamp : Stamp) (action : A) (t : Stamp) → IsAnswer S es moment (Message.Prepare n stamp action) (Answer.Late t) → (t ≡ last_by S es (S.core.key_of action)) × IsBy stamp t
  late_stamp es moment n stamp action t is =
      let w = state_after S.core (effects es) in
      let h = prepare_late (S.core.there w.catalog (S.core.key_of action)) (holder (w.spot (S.core.key_of action)).pend) n (last (here S.core w (S.core.key_of action)) (w.spot (S.core.key_of action))) stamp (w.spot (S.core.key_of action)).row (S.core.act w.catalog action (w.spot (S.core.key_of action)).row) t (sym is) in
      (h.0, subst (λ x. IsBy stamp x) (sym h.0) h.1)

  pub get_is_shown : (es : List (Entry K V A F D Q B)) → IsLegal S es → (moment : ℕ) (key : K) (v : Option V) → IsAnswer S es moment (Message.Get key) (Answer.Row v) → v ≡ shown S.core (effects es) key
  get_is_shown es legal moment key v is =
      let w = state_after S.core (effects es) in
      get_row (S.core.there w.catalog key) (w.spot key).row v (sym is) ∙ rows_are_shown S.core law.core (effects es) (legal_run S law es legal) key

-- a ReadVersion of an item whose table is there
pub version_is : {K V A F B : Type 0} (b : Bool) (row : Option V) (version gone : ℕ) (h : Option ℕ) (item : Option V) (v : ℕ) (k : Option ℕ) → version_answer {K = K} {V = V} {A = A} {F = F} {B = B} b row version gone h ≡ Answer.Version item v k → (b ≡ true) × (item ≡ row) × ((if is_some row then version else gone) ≡ v) × (h ≡ k)
version_is false row version gone h item v k e = absurd (cc)
version_is true row version gone h item v k e = (refl, cc, cc, cc)

effects-append : {K V A F D Q B : Type 0} (newer es : List (Entry K V A F D Q B)) → effects (newer ++ es) ≡ effects newer ++ effects es
effects-append [] es = refl
effects-append (e ∷ newer) es = ap (λ l. effect e ∷ l) (effects-append newer es)

module _ {K V A F C D Q B : Type 0} (S : Service K V A F C D Q B) (law : IsServiceLawful S) where
  one_point_run : (newer middle es : List (Effect K A D)) (all mid : List (Effect K A D)) (q : K) → all ≡ newer ++ mid → mid ≡ middle ++ es → IsRun S.core all → S.core.there (state_after S.core es).catalog q ≡ true → S.core.there (state_after S.core all).catalog q ≡ true → version_of S.core (state_after S.core es) q ≡ version_of S.core (state_after S.core all) q → holder ((state_after S.core all).spot q).pend ≡ None → (((state_after S.core es).spot q).row ≡ tables S.core (serial mid) q) × (((state_after S.core all).spot q).row ≡ tables S.core (serial mid) q)
  one_point_run newer middle es all mid q all_is mid_is run a b v free =
      subst (λ m. (((state_after S.core es).spot q).row ≡ tables S.core (serial m) q) × (((state_after S.core all).spot q).row ≡ tables S.core (serial m) q)) (sym mid_is)
      (subst (λ l. IsRun S.core l → S.core.there (state_after S.core l).catalog q ≡ true → version_of S.core (state_after S.core es) q ≡ version_of S.core (state_after S.core l) q → holder ((state_after S.core l).spot q).pend ≡ None → (((state_after S.core es).spot q).row ≡ tables S.core (serial (middle ++ es)) q) × (((state_after S.core l).spot q).row ≡ tables S.core (serial (middle ++ es)) q)) (sym (all_is ∙ ap (λ m. newer ++ m) mid_is))
      (λ r t w f. one_point S.core law.core newer middle es q r a t w f) run b v free)

  pub read_at_one_point : (newer middle es : List (Entry K V A F D Q B)) → IsLegal S (newer ++ (middle ++ es)) → (t u : ℕ) (q : K) (first second : Option V) (version : ℕ) (h : Option ℕ) → IsAnswer S es t (Message.ReadVersion q) (Answer.Version first version h) → IsAnswer S (newer ++ (middle ++ es)) u (Message.ReadVersion q) (Answer.Version second version None) → (first ≡ tables S.core (serial (effects (middle ++ es))) q) × (second ≡ tables S.core (serial (effects (middle ++ es))) q)
  read_at_one_point newer middle es legal t u q first second version h one two =
      let w = state_after S.core (effects es) in
      let x = state_after S.core (effects (newer ++ (middle ++ es))) in
      let a = version_is (S.core.there w.catalog q) (w.spot q).row (w.spot q).version (here S.core w q).gone (holder (w.spot q).pend) first version h (sym one) in
      let b = version_is (S.core.there x.catalog q) (x.spot q).row (x.spot q).version (here S.core x q).gone (holder (x.spot q).pend) second version None (sym two) in
      let r =
      one_point_run (effects newer) (effects middle) (effects es) (effects (newer ++ (middle ++ es))) (effects (middle ++ es)) q
      (effects-append newer (middle ++ es)) (effects-append middle es) (legal_run S law (newer ++ (middle ++ es)) legal) a.0 b.0 (a.2 ∙ sym b.2) b.3 in
      (a.1 ∙ r.0, b.1 ∙ r.1)
