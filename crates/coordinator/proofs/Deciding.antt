-- What a driver knows after its decision, and what comes next when.
use Rattle.std.proofs.Common.{◌≡◌, ◌≢◌, ℕ, ◌<◌, Bool, true, false, ◌||◌, nat_eq, nat_lt, List, [], ◌∷◌, ◌++◌, drop, reverse, ◌&&◌, Option, Some, if◌then◌else◌, inl, refl, sym, ap, ◌∙◌, subst, arith, eq-eqb}
use Rattle.std.specs.List.{list_any}
use Rattle.std.proofs.lemmas.Bool.{cond_both, ltb-true}
use Rattle.txn_core.specs.declared.fate.Fate.{Fate}
use Rattle.txn_core.specs.declared.fate.Fate.TheVariants.{Undecided, Committed, Cancelled, Gone}
use Rattle.txn_core.specs.declared.reason.Reason.{Reason}
use Rattle.txn_core.specs.declared.message.Message.{Message}
use Rattle.txn_core.specs.declared.answer.Answer.{Answer}
use Rattle.txn_core.specs.declared.course.Move.{Move}
use Rattle.txn_core.specs.Course.{Told, IsToldSo, is_undecided, is_known, next_decided, next_at, next_move, with_fate}
use Rattle.txn_core.specs.Driver.{is_no_table, cancel_reasons, course_left, moves_at, KnowsBegun}
use Rattle.txn_core.specs.History.{reasons_of}
use Rattle.txn_core.specs.Service.{Service, IsServiceLawful, Reply, Event, History}
use Rattle.txn_core.specs.Legal.{Allowed, state}
use Rattle.txn_core.specs.Answers.{decide_answer, has_record}
use Rattle.txn_core.proofs.Exports.{begun_stays, told_stays, decided, may_commit, may_cancel, decision_lessens, left, ended}
use Rattle.turnstile.specs.Passes.{PassView}
use Rattle.cluster.specs.declared.step.StepError.{StepError}
use Rattle.cluster.specs.Counts.{Counts}
use Rattle.cluster.specs.Events.{event_of}
use Rattle.cluster.specs.Steps.{IsLater}
use Rattle.coordinator.specs.declared.driver.Driver.{Driver}
use Rattle.coordinator.specs.Driving.{is_gone, finds_none, carried_reasons, IsDriver, IsNext, DrivenBy, Advances, Fails}
use Rattle.coordinator.proofs.Driven.{advanced, driven_on}
use Rattle.coordinator.proofs.Knowing.{none_there}

-- what comes before the decision comes before it alone
not_decided :
    (last : ℕ → Move) (told : Told) (m : Move) → next_decided last told ≡ m → ((i : ℕ) → last i ≡ m → ⊥) → (Move.Done ≡ m → ⊥)
    → (Move.End ≡ m → ⊥) → ⊥
not_decided last told m e no_last no_done no_end =
    cond_both (nat_lt told.done told.actions) (last told.done) (if nat_eq told.done told.actions then Move.Done else Move.End) (λ x. x ≡ m → ⊥)
    (λ _ h. no_last told.done h)
    (λ _ h. cond_both (nat_eq told.done told.actions) Move.Done Move.End (λ x. x ≡ m → ⊥) (λ _ k. no_done k) (λ _ k. no_end k) h) e

pub undecided_before :
    (told : Told) (m : Move) → next_move told ≡ m → ((i : ℕ) → Move.Apply i ≡ m → ⊥) → ((i : ℕ) → Move.Release i ≡ m → ⊥)
    → (Move.Done ≡ m → ⊥) → (Move.End ≡ m → ⊥) → told.fate ≡ Undecided
undecided_before told m e no_apply no_release no_done no_end = at_fate told.fate refl e
  where
    at_fate : (f : Fate) → told.fate ≡ f → next_at f told ≡ m → told.fate ≡ Undecided
    at_fate Undecided is h = is
    at_fate Committed is h = absurd (not_decided Move.Apply told m h no_apply no_done no_end)
    at_fate Cancelled is h = absurd (not_decided Move.Release told m h no_release no_done no_end)
    at_fate Gone is h = absurd (no_end h)

-- an action whose turn it is after the decision is there
pub last_within : (last : ℕ → Move) (told : Told) (m : Move) → next_decided last told ≡ m → (Move.Done ≡ m → ⊥) → (Move.End ≡ m → ⊥) → told.done < told.actions
last_within last told m e no_done no_end =
    cond_both (nat_lt told.done told.actions) (last told.done) (if nat_eq told.done told.actions then Move.Done else Move.End)
    (λ x. x ≡ m → told.done < told.actions) (λ is _. ltb-true told.done told.actions is)
    (λ _ h. absurd (cond_both (nat_eq told.done told.actions) Move.Done Move.End (λ x. x ≡ m → ⊥) (λ _ k. no_done k) (λ _ k. no_end k) h)) e

-- after a decision a cancel does not come next
pub no_cancel : (told : Told) → (told.fate ≡ Undecided → ⊥) → next_move told ≡ Move.Cancel → ⊥
no_cancel told ends e = ends (undecided_before told Move.Cancel e (λ i h. cc) (λ i h. cc) (λ h. cc) (λ h. cc))

-- a course that finished nothing yet is not at its end
pub not_ended : (told : Told) → told.done ≡ 0 → is_known told.fate ≡ true → next_move told ≡ Move.End → ⊥
not_ended told none known e = at_fate told.fate known ((ended told).0 e)
  where
    at_fate : (f : Fate) → is_known f ≡ true → moves_at f told ≡ 0 → ⊥
    at_fate Committed known h = let n = none in omega arith
    at_fate Cancelled known h = let n = none in omega arith
    at_fate Undecided known h = absurd (cc)
    at_fate Gone known h = absurd (cc)

-- a Decide is answered by a fate that is one, by its own where it is the first
abbrev chosen : Bool → Fate
chosen commit = if commit then Committed else Cancelled

module _ (K V A F B : Type 0) where
  pub record IsDecided (commit : Bool) (a : Answer K V A F B) : Type 0 where
    pub fate : Fate
    pub first : Bool
    pub is : a ≡ Answer.Decided fate first
    pub ends : fate ≢ Undecided
    pub own : first ≡ true → fate ≡ chosen commit

  stood : (f : Fate) (commit : Bool) (a : Answer K V A F B) → f ≢ Undecided → a ≡ Answer.Decided f false → IsDecided commit a
  stood f commit a ends e = record { fate = f; first = false; is = e; ends = ends; own = λ h. absurd (cc) }

  is_decided : (r : Bool) (f : Fate) (commit : Bool) (a : Answer K V A F B) → a ≡ decide_answer r f commit → IsDecided commit a
  is_decided false f commit a e = stood Gone commit a (λ h. cc) e
  is_decided true Undecided true a e = record { fate = Committed; first = true; is = e; ends = λ h. cc; own = λ _. refl }
  is_decided true Undecided false a e = record { fate = Cancelled; first = true; is = e; ends = λ h. cc; own = λ _. refl }
  is_decided true Committed true a e = stood Committed true a (λ h. cc) e
  is_decided true Committed false a e = stood Committed false a (λ h. cc) e
  is_decided true Cancelled true a e = stood Cancelled true a (λ h. cc) e
  is_decided true Cancelled false a e = stood Cancelled false a (λ h. cc) e
  is_decided true Gone true a e = stood Gone true a (λ h. cc) e
  is_decided true Gone false a e = stood Gone false a (λ h. cc) e

module _ {K V A F C D Q B : Type 0} (S : Service K V A F C D Q B) where
  -- the answer to a Decide after a legal history
  pub told_fate :
      (es later : History S) (p : PassView (Event S)) (cell : Option ℕ) (n : ℕ) (commit : Bool) (reasons : List (Reason V F)) (a : Reply S)
      → IsLater S es (event_of p cell (Message.Decide n commit reasons) a) later → IsDecided K V A F B commit a
  told_fate es later p cell n commit reasons a step =
      let l = (state S (step.newer ++ es)).ledger in is_decided K V A F B (has_record l n) (l.fate n) commit a step.legal.1.answer

  pub is_answered :
      (es later : History S) (p : PassView (Event S)) (cell : Option ℕ) (n : ℕ) (commit : Bool) (reasons : List (Reason V F)) (a : Reply S)
      → IsLater S es (event_of p cell (Message.Decide n commit reasons) a) later → ((g : Fate) (first : Bool) → a ≡ Answer.Decided g first → ⊥)
      → ⊥
  is_answered es later p cell n commit reasons a step other =
      let h = told_fate es later p cell n commit reasons a step in other h.fate h.first h.is

  module _
      (es later : History S) (p : PassView (Event S)) (cell : Option ℕ) (n : ℕ) (commit : Bool) (reasons : List (Reason V F)) (g : Fate) (first : Bool)
      (step : IsLater S es (event_of p cell (Message.Decide n commit reasons) (Answer.Decided g first)) later) where
    pub is_fate : g ≢ Undecided
    is_fate =
        let h = told_fate es later p cell n commit reasons (Answer.Decided g first) step in
        let e = h.is in
        let same : h.fate ≡ g = cc in
        λ none. h.ends (same ∙ none)

    pub is_chosen : first ≡ true → g ≡ chosen commit
    is_chosen now =
        let h = told_fate es later p cell n commit reasons (Answer.Decided g first) step in
        let e = h.is in
        let same : h.fate ≡ g = cc in
        let one : h.first ≡ first = cc in
        sym same ∙ h.own (one ∙ now)

  -- what a driver may decide
  pub commit_allowed :
      (es : History S) (d : Driver A V F) (pass : ℕ) (reasons : List (Reason V F)) → IsDriver S es d → IsNext d.course Move.Commit
      → Allowed S es pass (Message.Decide d.number true reasons)
  commit_allowed es d pass reasons is next = may_commit S es d.number is.told is.knows pass (next is.told is.told_so) reasons

  pub commit_undecided : (es : History S) (d : Driver A V F) → IsDriver S es d → IsNext d.course Move.Commit → d.fate ≡ Undecided
  commit_undecided es d is next =
      is.fate ∙ undecided_before is.told Move.Commit (next is.told is.told_so) (λ i h. cc) (λ i h. cc) (λ h. cc) (λ h. cc)

  pub cancel_undecided : (es : History S) (d : Driver A V F) → IsDriver S es d → IsNext d.course Move.Cancel → d.fate ≡ Undecided
  cancel_undecided es d is next =
      is.fate ∙ undecided_before is.told Move.Cancel (next is.told is.told_so) (λ i h. cc) (λ i h. cc) (λ h. cc) (λ h. cc)

  pub cancel_allowed :
      (es : History S) (d : Driver A V F) (pass : ℕ) (reasons : List (Reason V F)) → IsDriver S es d → IsNext d.course Move.Cancel
      → reasons ≡ d.carried → Allowed S es pass (Message.Decide d.number false reasons)
  cancel_allowed es d pass reasons is next same =
      let undecided = sym is.fate ∙ cancel_undecided es d is next in
      let carried : cancel_reasons is.told.verdicts d.found ≡ reasons =
      ap (λ b. carried_reasons b d.found) (sym is.tables) ∙ (sym (is.ready (next is.told is.told_so)).carried ∙ sym same) in
      subst (λ rs. Allowed S es pass (Message.Decide d.number false rs)) carried
      (may_cancel S es d.number is.told is.knows pass d.found (is.found undecided) (next is.told is.told_so))

  module _
      (es later : History S) (p : PassView (Event S)) (cell : Option ℕ) (commit : Bool) (reasons made : List (Reason V F)) (g : Fate) (first : Bool)
      (d new : Driver A V F) (is : IsDriver S es (record d { carried = made })) (none : d.fate ≡ Undecided)
      (step : IsLater S es (event_of p cell (Message.Decide d.number commit reasons) (Answer.Decided g first)) later)
      (course : (told : Told) → IsToldSo d.course told → IsToldSo new.course (with_fate told g)) (same : new ≡ record d { course = new.course; fate = g }) where
    undecided : is.told.fate ≡ Undecided
    undecided = sym is.fate ∙ none

    after : with_fate is.told g ≡ record is.told { fate = g }
    after = ap (λ f. if is_undecided f then record is.told { fate = g } else is.told) undecided

    ends : g ≢ Undecided
    ends = is_fate es later p cell d.number commit reasons g first step

    new_fate : new.fate ≡ g
    new_fate = ap (λ (z : Driver A V F). z.fate) same

    pub fated_less : course_left new.course < course_left d.course
    fated_less =
        let told = is.told in
        let less = decision_lessens told g undecided ends in
        let before = left d.course told is.told_so in
        let now = left new.course (with_fate told g) (course told is.told_so) in
        omega arith

    pub fated_first : first ≡ true → (new.fate ≡ chosen commit) × (reasons_of later d.number ≡ reasons)
    fated_first now =
        let past : History S = step.newer ++ es in (
          new_fate ∙ is_chosen es later p cell d.number commit reasons g first step now,
          subst (λ h. reasons_of h d.number ≡ reasons) step.is
              (subst (λ b. reasons_of (event_of p cell (Message.Decide d.number commit reasons) (Answer.Decided g b) ∷ past) d.number ≡ reasons) (sym now)
              (ap (λ b. if b then reasons else reasons_of past d.number) (λ j. eq-eqb d.number d.number refl j && true))),
        )

    module _ (law : IsServiceLawful S) where
      -- after a Decide
      pub fated : IsDriver S later new
      fated =
          let told = is.told in
          let e : Event S = event_of p cell (Message.Decide d.number commit reasons) (Answer.Decided g first) in
          let past : History S = step.newer ++ es in
          let knows = told_stays S law step.newer es step.legal.0 d.number told is.knows in
          let decides : (with_fate told g).fate ≡ g = ap (λ (t : Told). t.fate) after in
          subst (λ h. IsDriver S h new) step.is
          (subst (IsDriver S (e ∷ past)) (sym same)
          record {
            told = with_fate told g;
            told_so = course told is.told_so;
            actions = is.actions;
            begun = begun_stays S law (e ∷ step.newer) es step.legal d.number d.stamp is.actions is.begun;
            knows = decided S law past p.number p.moment d.number cell told commit reasons g first step.legal knows;
            left = is.left ∙ ap (λ (t : Told). drop t.done is.actions) (sym after);
            found = λ still. absurd (ends (sym decides ∙ still));
            tables = is.tables ∙ sym (ap (λ (t : Told). list_any is_no_table t.verdicts) after);
            ready = λ cancel. absurd (no_cancel (with_fate told g) (λ still. ends (sym decides ∙ still)) cancel);
            reasons = none_there _ d.reasons is.reasons (λ rs h. let c = sym h.0 ∙ undecided in cc);
            fate = sym decides;
          })

      -- and what its own entries say
      pub fated_by :
          (own : List (Event S)) → DrivenBy S es own d
          → DrivenBy S later (own ++ event_of p cell (Message.Decide d.number commit reasons) (Answer.Decided g first) ∷ []) new
      fated_by =
          let told = is.told in
          let e : Event S = event_of p cell (Message.Decide d.number commit reasons) (Answer.Decided g first) in
          let begun =
          subst (λ h. KnowsBegun S h d.number d.stamp is.actions) step.is
          (begun_stays S law (e ∷ step.newer) es step.legal d.number d.stamp is.actions is.begun) in
          let not_yet : is_gone d.fate ≡ false = ap is_gone none in
          driven_on S es later d.stamp is.actions e d new is.begun begun (ap (λ (z : Driver A V F). z.number) same)
          (ap is_gone new_fate ∙ (sym (finds_gone g) ∙ ap (λ b. b || finds_none d.number e.message e.answer) (sym not_yet)))
          (λ still. absurd (ends (sym new_fate ∙ still)))
          (λ known end.
          let decides : (with_fate told g).fate ≡ g = ap (λ (t : Told). t.fate) after in
          absurd (not_ended (with_fate told g) (ap (λ (t : Told). t.done) after ∙ is.knows.undone undecided)
          (ap is_known (decides ∙ sym new_fate) ∙ known) (end (with_fate told g) (course told is.told_so))))
          (λ place some. inl (sym (ap (λ (z : Driver A V F). z.no_table) same) ∙ some))
        where
          finds_gone : (f : Fate) → finds_none {K = K} {V = V} {A = A} {F = F} {D = D} {Q = Q} {B = B} d.number (Message.Decide d.number commit reasons) (Answer.Decided f first) ≡ is_gone f
          finds_gone Gone = eq-eqb d.number d.number refl
          finds_gone Undecided = refl
          finds_gone Committed = refl
          finds_gone Cancelled = refl

  -- the whole step
  pub decided_on :
      IsServiceLawful S → (p q : PassView (Event S)) (cell : Option ℕ) (commit : Bool) (reasons made : List (Reason V F)) (g : Fate) (first : Bool)
      (d new : Driver A V F) → IsDriver S (reverse p.front) (record d { carried = made }) → d.fate ≡ Undecided
      → IsLater S (reverse p.front) (event_of p cell (Message.Decide d.number commit reasons) (Answer.Decided g first)) (reverse q.front)
      → ((told : Told) → IsToldSo d.course told → IsToldSo new.course (with_fate told g)) → new ≡ record d { course = new.course; fate = g }
      → Counts S p (event_of p cell (Message.Decide d.number commit reasons) (Answer.Decided g first) ∷ []) 0 q → Advances S p d q new
  decided_on law p q cell commit reasons made g first d new is none step course same added =
      let es = reverse p.front in
      let later = reverse q.front in
      advanced S p q (event_of p cell (Message.Decide d.number commit reasons) (Answer.Decided g first)) d new (eq-eqb d.number d.number refl) added
      (fated_less es later p cell commit reasons made g first d new is none step course same) (ap (λ (z : Driver A V F). z.number) same)
      (fated es later p cell commit reasons made g first d new is none step course same law)
      (fated_by es later p cell commit reasons made g first d new is none step course same law)

  -- with the reasons of its own cancel
  pub with_reasons :
      (es : History S) (d : Driver A V F) (known copy : List (Reason V F)) → IsDriver S es d → d.fate ≡ Cancelled → reasons_of es d.number ≡ known
      → IsDriver S es (record d { copy = copy; reasons = Some known })
  with_reasons es d known copy is cancelled told =
      let fate = sym is.fate ∙ cancelled in
      record {
        told = is.told;
        told_so = is.told_so;
        actions = is.actions;
        begun = is.begun;
        knows = is.knows;
        left = is.left;
        found = is.found;
        tables = is.tables;
        ready = λ cancel. absurd (no_cancel is.told (λ still. (let e = sym fate ∙ still in cc)) cancel);
        reasons = (fate, told);
        fate = is.fate;
      }

  module _ (es : History S) (own : List (Event S)) (d : Driver A V F) where
    pub driven_with : (known copy : List (Reason V F)) → DrivenBy S es own d → DrivenBy S es own (record d { copy = copy; reasons = Some known })
    driven_with known copy h = record { gone = h.gone; undecided = h.undecided; done = h.done; table = h.table }

    pub driven_without : (made : List (Reason V F)) → DrivenBy S es own d → DrivenBy S es own (record d { carried = made })
    driven_without made h = record { gone = h.gone; undecided = h.undecided; done = h.done; table = h.table }

  -- a cancel whose reasons were moved into its message
  pub cancel_advances :
      (p q : PassView (Event S)) (d new : Driver A V F) (made : List (Reason V F)) → Advances S p (record d { carried = made }) q new → Advances S p d q new
  cancel_advances p q d new made h =
      record {
        own = h.own;
        added = h.added;
        each = h.each;
        fewer = h.fewer;
        same = h.same;
        knows = h.knows;
        driven = λ older by. h.driven older (driven_without (reverse p.front) older d made by);
      }

  pub cancel_known :
      (p q : PassView (Event S)) (d new : Driver A V F) (made known copy : List (Reason V F)) → Advances S p (record d { carried = made }) q new
      → new.fate ≡ Cancelled → reasons_of (reverse q.front) d.number ≡ known → Advances S p d q (record new { copy = copy; reasons = Some known })
  cancel_known p q d new made known copy h cancelled told =
      record {
        own = h.own;
        added = h.added;
        each = h.each;
        fewer = h.fewer;
        same = h.same;
        knows = with_reasons (reverse q.front) new known copy h.knows cancelled (ap (λ k. reasons_of (reverse q.front) k) h.same ∙ told);
        driven = λ older by.
            driven_with (reverse q.front) (older ++ h.own) new known copy (h.driven older (driven_without (reverse p.front) older d made by));
      }

  pub cancel_fails :
      (p q : PassView (Event S)) (d : Driver A V F) (made : List (Reason V F)) (error : StepError) → Fails S p (record d { carried = made }) error q
      → Fails S p d error q
  cancel_fails p q d made error h =
      record {
        own = h.own;
        added = h.added;
        each = h.each;
        few = h.few;
        there = λ older by. h.there older (driven_without (reverse p.front) older d made by);
        early = λ memory older by. h.early memory older (driven_without (reverse p.front) older d made by);
      }
