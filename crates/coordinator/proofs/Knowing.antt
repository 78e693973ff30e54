-- What a driver knows after each step.
use Rattle.std.proofs.Common.{◌≡◌, ◌⊎◌, inl, inr, ℕ, ◌<◌, Bool, true, false, ◌||◌, ◌&&◌, nat_eq, nat_lt, List, [], ◌∷◌, ◌++◌, length, drop, reverse, is_some, Option, None, Some, IfSome, slice_get, if◌then◌else◌, refl, sym, ap, ◌∙◌, subst, arith, eq-eqb}
use Rattle.std.specs.List.{list_any}
use Rattle.std.proofs.lemmas.Bool.{and_parts, cond_both}
use Rattle.std.proofs.lemmas.List.Folds.{list_any-append}
use Rattle.txn_core.specs.declared.stamp.Stamp.{Stamp}
use Rattle.txn_core.specs.declared.fate.Fate.{Fate}
use Rattle.txn_core.specs.declared.fate.Fate.TheVariants.{Undecided}
use Rattle.txn_core.specs.declared.verdict.Verdict.{Verdict}
use Rattle.txn_core.specs.declared.outcome.Outcome.{Outcome}
use Rattle.txn_core.specs.declared.outcome.Outcome.TheVariants.{New, Unmet, Fails}
use Rattle.txn_core.specs.declared.message.Message.{Message}
use Rattle.txn_core.specs.declared.answer.Answer.{Answer}
use Rattle.txn_core.specs.declared.course.Move.{Move}
use Rattle.txn_core.specs.Course.{Told, IsToldSo, is_undecided, is_known, next_move, with_verdict}
use Rattle.txn_core.specs.Driver.{is_no_table, verdict_of, course_left, KnowsBegun, KnowsReasons}
use Rattle.txn_core.specs.History.{effects, is_stale}
use Rattle.txn_core.specs.Serial.{begun_actions}
use Rattle.txn_core.specs.Service.{Service, IsServiceLawful, Asked, Reply, Event, History}
use Rattle.txn_core.specs.Legal.{IsLegal, Allowed, prepares, state, there_in, holder_in, last_in, outcome_in}
use Rattle.txn_core.specs.Stamps.{earlier}
use Rattle.txn_core.specs.Answers.{outcome_answer, prepare_answer}
use Rattle.txn_core.proofs.Exports.{begun_stays, told_stays, reasons_stay, prepared, reasoned, may_prepare, prepare_lessens, left}
use Rattle.txn_core.proofs.Drives.{prepare_next}
use Rattle.turnstile.specs.Passes.{PassView}
use Rattle.cluster.specs.declared.step.StepError.{StepError}
use Rattle.cluster.specs.Counts.{Counts}
use Rattle.cluster.specs.Events.{event_of}
use Rattle.cluster.specs.Steps.{IsLater}
use Rattle.coordinator.specs.declared.driver.Driver.{Driver}
use Rattle.coordinator.specs.Driving.{is_gone, IsDriver, IsNext, IsReady, Notes, DrivenBy, Advances, Fails as FailsAt}
use Rattle.coordinator.proofs.Driven.{TellsGone, advanced, driven_on, failed, or_false}

pub undecided_is : (f : Fate) → is_undecided f ≡ true → f ≡ Undecided
undecided_is Undecided e = refl
undecided_is _ e = absurd (cc)

some_is : (i j : ℕ) → Some i ≡ Some j → i ≡ j
some_is i j e = first_of (cc)

-- what holds of nothing implies anything of what is there
pub none_there : {X : Type 0} {T : X → Type 0} (U : X → Type 0) (o : Option X) → IfSome o T → ((x : X) → T x → ⊥) → IfSome o U
none_there U None h never = tt
none_there U (Some x) h never = absurd (never x h)

pub known_undecided : (f : Fate) → f ≡ Undecided → is_known f ≡ true → ⊥
known_undecided f e h = let k = sym (ap is_known e) ∙ h in cc

abbrev no_table_in : Option Verdict → Bool
no_table_in (Some v) = is_no_table v
no_table_in None = false

-- a Prepare is answered by a verdict
module _ (K A B : Type 0) {V F : Type 0} where
  abbrev HasVerdict : Answer K V A F B → Type 0
  HasVerdict a = (v : Verdict) × (verdict_of a ≡ Some v)

  by_outcome : (row : Option V) (o : Outcome V F) → HasVerdict (outcome_answer row o)
  by_outcome row (New v) = (Verdict.Accepted, refl)
  by_outcome row Unmet = (Verdict.CondFalse, refl)
  by_outcome row (Fails fault) = (Verdict.Invalid, refl)

  has_verdict :
      (there : Bool) (holding : Option ℕ) (n : ℕ) (last stamp : Stamp) (row : Option V) (outcome : Outcome V F)
      → HasVerdict (prepare_answer there holding n last stamp row outcome)
  has_verdict false holding n last stamp row outcome = (Verdict.NoTable, refl)
  has_verdict true (Some m) n last stamp row outcome =
      cond_both (nat_eq m n) Answer.Accepted (Answer.Held m) HasVerdict (λ _. (Verdict.Accepted, refl)) (λ _. (Verdict.Held m, refl))
  has_verdict true None n last stamp row outcome =
      cond_both (earlier last stamp) (outcome_answer row outcome) (Answer.Late last) HasVerdict (λ _. by_outcome row outcome)
      (λ _. (Verdict.Late last, refl))

module _ {K V A F C D Q B : Type 0} (S : Service K V A F C D Q B) where
  -- the answer to a Prepare after a legal history has a verdict
  pub told_verdict :
      (es later : History S) (p : PassView (Event S)) (cell : Option ℕ) (n : ℕ) (stamp : Stamp) (x : A) (a : Reply S)
      → IsLater S es (event_of p cell (Message.Prepare n stamp x) a) later → (v : Verdict) × (verdict_of a ≡ Some v)
  told_verdict es later p cell n stamp x a step =
      let w = state S (step.newer ++ es) in
      let k = S.core.key_of x in
      subst (λ (y : Reply S). (v : Verdict) × (verdict_of y ≡ Some v)) (sym step.legal.1.answer)
      (has_verdict K A B (there_in S w k) (holder_in S w k) n (last_in S w k) stamp (w.spot k).row (outcome_in S w x))

  -- before the decision the driver has all actions
  pub has_all : (es : History S) (d : Driver A V F) (is : IsDriver S es d) → is.told.fate ≡ Undecided → d.actions.items ≡ is.actions
  has_all es d is undecided = is.left ∙ ap (λ k. drop k is.actions) (is.knows.undone undecided)

  -- where an action is prepared next, nothing is decided
  pub preparing : (es : History S) (d : Driver A V F) (place : ℕ) (is : IsDriver S es d) → IsNext d.course (Move.Prepare place) → is.told.fate ≡ Undecided
  preparing es d place is next =
      let turn = prepare_next is.told place (next is.told is.told_so) in
      undecided_is is.told.fate (and_parts (is_undecided is.told.fate) (nat_lt (length is.told.verdicts) is.told.actions) turn.0).0

  with_table : (o : Option ℕ) (place : ℕ) (b c : Bool) → is_some o ≡ b → is_some (if c then Some place else o) ≡ (b || c)
  with_table o place b true h = sym (or_true b)
    where
      or_true : (b : Bool) → (b || true) ≡ true
      or_true true = refl
      or_true false = refl
  with_table o place b false h = h ∙ sym (or_false b)

  stale_told : (a : Reply S) → no_table_in (verdict_of a) ≡ true → is_stale a ≡ true
  stale_told Answer.Stale h = refl
  stale_told Answer.Accepted h = absurd (cc)
  stale_told (Answer.Held m) h = absurd (cc)
  stale_told (Answer.Late stamp) h = absurd (cc)
  stale_told (Answer.CondFalse old) h = absurd (cc)
  stale_told (Answer.Invalid fault) h = absurd (cc)
  stale_told _ h = absurd (cc)

  module _ (law : IsServiceLawful S) where
    -- the driver took the place down that told so now, or one before
    gone_at :
        (later : History S) (e : Event S) (n place where_ : ℕ) (x : A) (a : Reply S) (o : Option ℕ) (v : Verdict)
        → slice_get (begun_actions (effects later) n) place ≡ Some x → (stamp : Stamp) → e.message ≡ Message.Prepare n stamp x → e.answer ≡ a
        → verdict_of a ≡ Some v → (if is_no_table v then Some place else o) ≡ Some where_ → (o ≡ Some where_) ⊎ TellsGone S later n where_ e
    gone_at later e n place where_ x a o v its stamp message answer told some =
        cond_both (is_no_table v) (Some place) o (λ y. y ≡ Some where_ → (o ≡ Some where_) ⊎ TellsGone S later n where_ e)
        (λ none h.
        let same : place ≡ where_ = some_is place where_ h in
        let stale = stale_told a (ap no_table_in told ∙ none) in
        inr record {
          action = x;
          its_place = subst (λ i. slice_get (begun_actions (effects later) n) i ≡ Some x) same its;
          stale =
              subst (λ (z : Asked S × Reply S). (prepares S n (S.core.key_of x) z.0 && is_stale z.1) ≡ true) (λ j. (sym message j, sym answer j))
              (λ j. (eq-eqb n n refl j && law.core.itself (S.core.key_of x) j) && stale j);
        })
        (λ _ h. inl h) some

    pub may_prepare_next :
        (es : History S) (d : Driver A V F) (pass place : ℕ) (x : A) → IsLegal S es → IsDriver S es d → IsNext d.course (Move.Prepare place)
        → slice_get d.actions.items place ≡ Some x → Allowed S es pass (Message.Prepare d.number d.stamp x)
    may_prepare_next es d pass place x legal is next at =
        may_prepare S es d.number law legal d.stamp is.actions is.begun pass place x
        (sym (ap (λ xs. slice_get xs place) (has_all es d is (preparing es d place is next))) ∙ at)

    -- after a Prepare that was answered so and taken down, with what a cancel is to carry made where that comes next
    pub noted :
        (es later : History S) (p : PassView (Event S)) (cell : Option ℕ) (place : ℕ) (x : A) (a : Reply S) (d mid new : Driver A V F)
        → IsDriver S es d → IsNext d.course (Move.Prepare place) → slice_get d.actions.items place ≡ Some x
        → IsLater S es (event_of p cell (Message.Prepare d.number d.stamp x) a) later → Notes d place a mid
        → new ≡ record mid { carried = new.carried; copy = new.copy }
        → ((told : Told) → IsToldSo mid.course told → next_move told ≡ Move.Cancel → IsReady new) → IsDriver S later new
    noted es later p cell place x a d mid new is next at step notes same ready =
        let told = is.told in
        let v = notes.verdict in
        let past : History S = step.newer ++ es in
        let e : Event S = event_of p cell (Message.Prepare d.number d.stamp x) a in
        let move = next told is.told_so in
        let turn = (prepare_next told place move).0 in
        let undecided = preparing es d place is next in
        let longer : with_verdict told v ≡ record told { verdicts = told.verdicts ++ v ∷ [] } =
        ap (λ b. if b then record told { verdicts = told.verdicts ++ v ∷ [] } else told) turn in
        let begun = begun_stays S law step.newer es step.legal.0 d.number d.stamp is.actions is.begun in
        let knows = told_stays S law step.newer es step.legal.0 d.number told is.knows in
        let found = reasons_stay S law step.newer es step.legal.0 d.number told d.found is.knows (is.found undecided) in
        let its = ap (λ xs. slice_get xs place) (begun.its_actions ∙ sym (has_all es d is undecided)) ∙ at in
        let reasons = reasoned S law past p.number p.moment d.number place cell told d.stamp x a v d.found step.legal knows found move its notes.told in
        let tables : list_any is_no_table (told.verdicts ++ v ∷ []) ≡ (list_any is_no_table told.verdicts || is_no_table v) =
        list_any-append is_no_table told.verdicts (v ∷ []) ∙ ap (λ b. list_any is_no_table told.verdicts || b) (or_false (is_no_table v)) in
        let whole : new ≡ record d { course = mid.course; found = mid.found; no_table = mid.no_table; carried = new.carried; copy = new.copy } =
        same ∙ ap (λ (z : Driver A V F). record z { carried = new.carried; copy = new.copy }) notes.same in
        subst (λ h. IsDriver S h new) step.is
        (subst (IsDriver S (e ∷ past)) (sym whole)
        record {
          told = with_verdict told v;
          told_so = notes.course told is.told_so;
          actions = is.actions;
          begun = begun_stays S law (e ∷ step.newer) es step.legal d.number d.stamp is.actions is.begun;
          knows = prepared S law past p.number p.moment d.number place cell told d.stamp x a v step.legal knows move its notes.told;
          left = is.left ∙ ap (λ (t : Told). drop t.done is.actions) (sym longer);
          found = λ _. subst (λ rs. KnowsReasons S (e ∷ past) d.number (with_verdict told v) rs) (sym notes.found) reasons;
          tables =
              ap is_some notes.no_table
              ∙ (with_table d.no_table place (list_any is_no_table told.verdicts) (is_no_table v) is.tables
              ∙ (sym tables ∙ sym (ap (λ (t : Told). list_any is_no_table t.verdicts) longer)));
          ready = λ cancel.
              let made = ready (with_verdict told v) (notes.course told is.told_so) cancel in
              subst (λ (z : Driver A V F). IsReady z) whole made;
          reasons = none_there _ d.reasons is.reasons (λ rs h. let e = sym h.0 ∙ undecided in cc);
          fate = is.fate ∙ sym (ap (λ (t : Told). t.fate) longer);
        })

    -- and what its own entries say
    pub noted_by :
        (es later : History S) (p : PassView (Event S)) (cell : Option ℕ) (place : ℕ) (x : A) (a : Reply S) (d mid new : Driver A V F)
        (is : IsDriver S es d) → IsNext d.course (Move.Prepare place) → slice_get d.actions.items place ≡ Some x
        → IsLater S es (event_of p cell (Message.Prepare d.number d.stamp x) a) later → Notes d place a mid
        → new ≡ record mid { carried = new.carried; copy = new.copy }
        → (own : List (Event S)) → DrivenBy S es own d → DrivenBy S later (own ++ event_of p cell (Message.Prepare d.number d.stamp x) a ∷ []) new
    noted_by es later p cell place x a d mid new is next at step notes same =
        let e : Event S = event_of p cell (Message.Prepare d.number d.stamp x) a in
        let undecided = is.fate ∙ preparing es d place is next in
        let whole : new ≡ record d { course = mid.course; found = mid.found; no_table = mid.no_table; carried = new.carried; copy = new.copy } =
        same ∙ ap (λ (z : Driver A V F). record z { carried = new.carried; copy = new.copy }) notes.same in
        let fate : new.fate ≡ d.fate = ap (λ (z : Driver A V F). z.fate) whole in
        let begun = subst (λ h. KnowsBegun S h d.number d.stamp is.actions) step.is (begun_stays S law (e ∷ step.newer) es step.legal d.number d.stamp is.actions is.begun) in
        driven_on S es later d.stamp is.actions e d new is.begun begun (ap (λ (z : Driver A V F). z.number) whole)
        (ap is_gone fate ∙ sym (or_false (is_gone d.fate))) (λ _. (undecided, refl))
        (λ known _. let f = fate ∙ undecided in absurd (known_undecided new.fate f known))
        (λ at_place some.
        gone_at later e d.number place at_place x a d.no_table notes.verdict
        (ap (λ xs. slice_get xs place) (begun.its_actions ∙ sym (has_all es d is (preparing es d place is next))) ∙ at) d.stamp refl refl notes.told
        (sym (ap (λ (z : Driver A V F). z.no_table) whole ∙ notes.no_table) ∙ some))

  pub noted_less :
      (es : History S) (place : ℕ) (a : Reply S) (d mid new : Driver A V F) → IsDriver S es d → IsNext d.course (Move.Prepare place)
      → Notes d place a mid → new ≡ record mid { carried = new.carried; copy = new.copy } → course_left new.course < course_left d.course
  noted_less es place a d mid new is next notes same =
      let told = is.told in
      let less = prepare_lessens told place notes.verdict (next told is.told_so) in
      let before = left d.course told is.told_so in
      let after = left mid.course (with_verdict told notes.verdict) (notes.course told is.told_so) in
      let its : new.course ≡ mid.course = ap (λ (z : Driver A V F). z.course) same in
      subst (λ k. course_left k < course_left d.course) (sym its) (omega arith)

  -- the whole step
  pub prepared_on :
      IsServiceLawful S → (p q : PassView (Event S)) (cell : Option ℕ) (place : ℕ) (x : A) (a : Reply S) (d mid new : Driver A V F)
      → IsDriver S (reverse p.front) d → IsNext d.course (Move.Prepare place) → slice_get d.actions.items place ≡ Some x
      → IsLater S (reverse p.front) (event_of p cell (Message.Prepare d.number d.stamp x) a) (reverse q.front)
      → Counts S p (event_of p cell (Message.Prepare d.number d.stamp x) a ∷ []) 0 q → Notes d place a mid
      → new ≡ record mid { carried = new.carried; copy = new.copy }
      → ((told : Told) → IsToldSo mid.course told → next_move told ≡ Move.Cancel → IsReady new) → Advances S p d q new
  prepared_on law p q cell place x a d mid new is next at step added notes same ready =
      let es = reverse p.front in
      let later = reverse q.front in
      advanced S p q (event_of p cell (Message.Prepare d.number d.stamp x) a) d new (eq-eqb d.number d.number refl) added
      (noted_less es place a d mid new is next notes same)
      (ap (λ (z : Driver A V F). z.number) same ∙ ap (λ (z : Driver A V F). z.number) notes.same)
      (noted law es later p cell place x a d mid new is next at step notes same ready)
      (noted_by law es later p cell place x a d mid new is next at step notes same)

  -- where it was answered and there was no memory to take that down
  pub prepared_in_vain :
      (p q : PassView (Event S)) (es : History S) (cell : Option ℕ) (place : ℕ) (x : A) (a : Reply S) (d : Driver A V F) → IsDriver S es d
      → IsNext d.course (Move.Prepare place) → Counts S p (event_of p cell (Message.Prepare d.number d.stamp x) a ∷ []) 0 q
      → FailsAt S p d StepError.NoMemory q
  prepared_in_vain p q es cell place x a d is next added =
      let told = is.told in
      let less = prepare_lessens told place Verdict.Accepted (next told is.told_so) in
      let before = left d.course told is.told_so in
      let undecided = is.fate ∙ preparing es d place is next in
      let e : Event S = event_of p cell (Message.Prepare d.number d.stamp x) a in
      failed S p q d StepError.NoMemory (e ∷ []) (inl added) (eq-eqb d.number d.number refl, tt) (omega arith)
      (ap is_gone undecided) refl (λ _. (undecided, refl))
