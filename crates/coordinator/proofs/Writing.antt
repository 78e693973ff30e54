-- How a transaction is written: from the Begin that drew its number to its Forget, and a Begin after the other.
use Rattle.std.proofs.Common.{◌≡◌, ◌≢◌, ◌↔◌, inl, inr, ℕ, zero, suc, ◌+◌, ◌<◌, ◌≤◌, Bool, true, false, ◌++◌, List, [], ◌∷◌, length, reverse, is_some, Option, None, Some, IfSome, Result, Ok, Err, IfOk, if◌then◌else◌, refl, sym, ap, ◌∙◌, subst, arith}
use Rattle.std.proofs.lemmas.Bool.{cond_both}
use Rattle.std.proofs.lemmas.List.{append-nil}
use Rattle.turnstile.specs.Histories.{IsBeginning}
use Rattle.turnstile.specs.Passes.{PassView, most_units}
use Rattle.ddb_outside.specs.Causes.{Rose}
use Rattle.txn_core.specs.declared.fate.Fate.{Fate}
use Rattle.txn_core.specs.declared.reason.Reason.{Reason}
use Rattle.txn_core.specs.declared.stamp.Stamp.{Stamp}
use Rattle.txn_core.specs.declared.message.Message.{Message}
use Rattle.txn_core.specs.declared.answer.Answer.{Answer}
use Rattle.txn_core.specs.Answers.{KeptToken, begin_answer}
use Rattle.txn_core.specs.Course.{is_known}
use Rattle.txn_core.specs.Driver.{told_nothing, course_left, KnowsBegun, Knows}
use Rattle.txn_core.specs.History.{Had, commits, cancels, finishes, found_kept, reasons_of}
use Rattle.txn_core.specs.Legal.{BeginFits, IsLegal}
use Rattle.txn_core.specs.Replay.{are_apart}
use Rattle.txn_core.specs.Service.{Service, IsServiceLawful, Reply, Event, History}
use Rattle.txn_core.proofs.Duties.{pairs_apart}
use Rattle.txn_core.proofs.Exports.{beginning_is_tail, begun_stays, had_stays, left, reasons_of_stay}
use Rattle.cluster.specs.declared.step.StepError.{StepError}
use Rattle.cluster.specs.Events.{event_of}
use Rattle.cluster.specs.Steps.{IsLater}
use Rattle.cluster.specs.Counts.{Counts, CountsUntil}
use Rattle.cluster.proofs.OwnEntries.{counts_none}
use Rattle.coordinator.specs.declared.driver.Driver.{Driver}
use Rattle.coordinator.specs.declared.drive_end.DriveEnd.{DriveEnd}
use Rattle.coordinator.specs.declared.transact_end.TransactEnd.{TransactEnd}
use Rattle.coordinator.specs.Driving.{is_gone, AllDrive, found_none, sent_done, IsDriver, DrivenBy, FoundGone}
use Rattle.coordinator.specs.Drives.{is_gone_end, IsCancelled, IsEnd, Ends}
use Rattle.coordinator.specs.Writes.{ended_by, unanswered, is_over, answers_begin, StartsWith, IsDrawn, IsOwn, Forgets, ForgetsDone, RunsDrawn, Follows, Turns, TurnsAgain, Writes}
use Rattle.coordinator.proofs.Closing.{few_left}
use Rattle.coordinator.proofs.Drawn.{own_forgotten, stays_there}
use Rattle.coordinator.proofs.Driven.{found_on}
use Rattle.coordinator.proofs.Finishing.{some_weaker}
use Rattle.coordinator.proofs.Moving.{added_by, exactly}
use Rattle.coordinator.proofs.Recalled.{starts_on}

-- of nothing anything holds
none_is : {X : Type 0} (T : X → Type 0) (o : Option X) → o ≡ None → IfSome o T
none_is T None e = tt
none_is T (Some x) e = absurd (cc)

module _ {V F : Type 0} where
  -- an end is that of what it was driven to
  pub stopped_by : (driven : DriveEnd V F) → ended_by driven ≡ Some TransactEnd.Stopped → driven ≡ DriveEnd.Stopped
  stopped_by DriveEnd.Stopped e = refl
  stopped_by DriveEnd.Committed e = absurd (cc)
  stopped_by (DriveEnd.Cancelled reasons) e = absurd (cc)
  stopped_by (DriveEnd.NoTable place) e = absurd (cc)
  stopped_by DriveEnd.Gone e = absurd (cc)
  stopped_by DriveEnd.Spent e = absurd (cc)
  stopped_by DriveEnd.NoMemory e = absurd (cc)

  pub none_by : (driven : DriveEnd V F) → ended_by driven ≡ None → driven ≡ DriveEnd.Gone
  none_by DriveEnd.Gone e = refl
  none_by DriveEnd.Stopped e = absurd (cc)
  none_by DriveEnd.Committed e = absurd (cc)
  none_by (DriveEnd.Cancelled reasons) e = absurd (cc)
  none_by (DriveEnd.NoTable place) e = absurd (cc)
  none_by DriveEnd.Spent e = absurd (cc)
  none_by DriveEnd.NoMemory e = absurd (cc)

  pub unanswered_goes_on : (why : StepError) → unanswered {V = V} {F = F} why ≢ TransactEnd.Stopped
  unanswered_goes_on StepError.Spent e = cc
  unanswered_goes_on StepError.NoMemory e = cc

-- a stop that was counted after a while, or before one
pub rose_before : (a m c : ℕ) → a ≤ m → Rose m c → Rose a c
rose_before a m c le rose = omega arith

pub rose_after : (a m c : ℕ) → Rose a m → m ≤ c → Rose a c
rose_after a m c rose le = omega arith

module _ (K V A F B : Type 0) where
  -- what a Begin is answered
  is_told :
      (same : List A → List A → Bool) (there : Bool) (o : Option (KeptToken A)) (actions : List A) (stamp : Stamp)
      → answers_begin (begin_answer {K = K} {V = V} {F = F} {B = B} same there o actions stamp) ≡ true
  is_told same false o actions stamp = refl
  is_told same true None actions stamp = refl
  is_told same true (Some k) actions stamp =
      cond_both (same k.actions actions) (if is_some k.completed then Answer.Repeat k.number else Answer.Running k.number) (Answer.Mismatch k.number)
      (λ (a : Answer K V A F B). answers_begin a ≡ true)
      (λ _. cond_both (is_some k.completed) (Answer.Repeat k.number) (Answer.Running k.number) (λ (a : Answer K V A F B). answers_begin a ≡ true)
      (λ _. refl) (λ _. refl))
      (λ _. refl)

module _ {K V A F C D Q B : Type 0} (S : Service K V A F C D Q B) where
  pub begin_told :
      (es later : History S) (p : PassView (Event S)) (cell : Option ℕ) (token : Option (List ℕ)) (actions : List A) (a : Reply S)
      → IsLater S es (event_of p cell (Message.Begin token actions) a) later → answers_begin a ≡ true
  begin_told es later p cell token actions a step =
      ap answers_begin step.legal.1.answer ∙ is_told K V A F B S.same_actions _ (found_kept (step.newer ++ es) p.moment token) actions _

  -- actions on items that differ may be begun
  pub may_begin : (actions : List A) → 1 ≤ length actions → length actions ≤ 100 → are_apart S.core actions ≡ true → BeginFits S actions
  may_begin actions some few apart = (some, few, pairs_apart S.core actions apart)

  over_forgets :
      (driven : DriveEnd V F) (p : PassView (Event S)) (n : ℕ) (q : PassView (Event S)) → is_over driven ≡ true → Forgets S p n q
      → ForgetsDone S driven p n q
  over_forgets DriveEnd.Committed p n q over h = h
  over_forgets (DriveEnd.Cancelled reasons) p n q over h = h
  over_forgets (DriveEnd.NoTable place) p n q over h = h
  over_forgets DriveEnd.Gone p n q over h = absurd (cc)
  over_forgets DriveEnd.Stopped p n q over h = absurd (cc)
  over_forgets DriveEnd.Spent p n q over h = absurd (cc)
  over_forgets DriveEnd.NoMemory p n q over h = absurd (cc)

  rests_done : (driven : DriveEnd V F) (p : PassView (Event S)) (n : ℕ) → is_over driven ≡ false → ForgetsDone S driven p n p
  rests_done DriveEnd.Committed p n over = absurd (cc)
  rests_done (DriveEnd.Cancelled reasons) p n over = absurd (cc)
  rests_done (DriveEnd.NoTable place) p n over = absurd (cc)
  rests_done DriveEnd.Gone p n over = refl
  rests_done DriveEnd.Stopped p n over = refl
  rests_done DriveEnd.Spent p n over = refl
  rests_done DriveEnd.NoMemory p n over = refl

  -- a Forget leaves the pass otherwise, and goes on from what it had seen
  forgets_pass : (p : PassView (Event S)) (n : ℕ) (q : PassView (Event S)) → Forgets S p n q → (q.turnstile ≡ p.turnstile) × IsBeginning p.front q.front
  forgets_pass p n q (inl h) = (ap (λ (z : PassView (Event S)). z.turnstile) h.1.pass, (h.1.trail.rest, h.1.trail.is))
  forgets_pass p n q (inr h) =
      (ap (λ (z : PassView (Event S)). z.turnstile) h.0, ([], append-nil p.front ∙ ap (λ (z : PassView (Event S)). z.front) (sym h.0)))

  pub forgets_same : (p : PassView (Event S)) (n : ℕ) (q : PassView (Event S)) → Forgets S p n q → q.turnstile ≡ p.turnstile
  forgets_same p n q h = (forgets_pass p n q h).0

  -- what a number ended by is so later
  end_stays :
      IsServiceLawful S → (m q : PassView (Event S)) (n : ℕ) (stamp : Stamp) (actions : List A) (own : List (Event S)) (newer : History S)
      → reverse q.front ≡ newer ++ reverse m.front → IsLegal S (reverse q.front) → KnowsBegun S (reverse m.front) n stamp actions
      → KnowsBegun S (reverse q.front) n stamp actions → (driven : DriveEnd V F) → is_over driven ≡ true → IsEnd S m n own driven
      → IsEnd S q n own driven
  end_stays law m q n stamp actions own newer whole legal begun still driven over is = by_end driven over is
    where
      cancelled_on : (reasons : List (Reason V F)) → IsCancelled S (reverse m.front) n own reasons → IsCancelled S (reverse q.front) n own reasons
      cancelled_on reasons h = record {
        cancelled = subst (λ es. Had (cancels n) es) (sym whole) (had_stays (cancels n) newer (reverse m.front) h.cancelled);
        reasons_are =
            ap (λ es. reasons_of es n) whole
            ∙ (reasons_of_stay S law newer (reverse m.front) (subst (IsLegal S) whole legal) n (inr h.cancelled) ∙ h.reasons_are);
        done = h.done;
      }

      found_later : (place : ℕ) → FoundGone S (reverse m.front) n own place → FoundGone S (reverse q.front) n own place
      found_later place h =
          subst (λ xs. FoundGone S (reverse q.front) n xs place) (append-nil own)
          (found_on S (reverse m.front) (reverse q.front) n place stamp actions own [] begun still h)

      by_end : (e : DriveEnd V F) → is_over e ≡ true → IsEnd S m n own e → IsEnd S q n own e
      by_end DriveEnd.Committed o h =
          record { gone = h.gone; cause = (subst (λ es. Had (commits n) es) (sym whole) (had_stays (commits n) newer (reverse m.front) h.cause.0), h.cause.1) }
      by_end (DriveEnd.Cancelled reasons) o h = record { gone = h.gone; cause = (cancelled_on reasons h.cause.0, h.cause.1) }
      by_end (DriveEnd.NoTable place) o h =
          record {
            gone = h.gone;
            cause = (h.cause.0, cancelled_on h.cause.0 h.cause.1, h.cause.2, some_weaker place h.cause.3 found_later);
          }
      by_end DriveEnd.Gone o h = absurd (cc)
      by_end DriveEnd.Stopped o h = absurd (cc)
      by_end DriveEnd.Spent o h = absurd (cc)
      by_end DriveEnd.NoMemory o h = absurd (cc)

  -- a driver of what was begun
  module _ (p : PassView (Event S)) (n : ℕ) (stamp : Stamp) (actions : List A) (d : Driver A V F) (h : IsDrawn S p n stamp actions) (starts : StartsWith n stamp actions d) where
    pub begins_driver : IsDriver S (reverse p.front) d
    begins_driver = record {
      told = told_nothing (length actions);
      told_so = starts.course;
      actions = actions;
      begun = subst (λ (z : ℕ × Stamp). KnowsBegun S (reverse p.front) z.0 z.1 actions) (λ j. (sym starts.number j, sym starts.its_stamp j)) h.begun;
      knows = subst (λ k. Knows S (reverse p.front) k (told_nothing (length actions))) (sym starts.number) h.knows;
      left = starts.its_actions;
      found = λ _. record { many = ap length starts.found; each = λ i v r x at is its. absurd (cc) };
      tables = ap is_some starts.table;
      ready = λ cancel. absurd (starts_on S (length actions) Fate.Undecided cancel);
      reasons = none_is _ d.reasons starts.reasons;
      fate = starts.fate;
    }

    begins_by : DrivenBy S (reverse p.front) [] d
    begins_by = record {
      gone = ap is_gone starts.fate;
      undecided = λ _. refl;
      done = λ known end. absurd (let e = sym (ap is_known starts.fate) ∙ known in cc);
      table = subst (λ o. IfSome o (FoundGone S (reverse p.front) d.number [])) (sym starts.table) tt;
    }

    module _
        (law : IsServiceLawful S) (middle : PassView (Event S)) (driven : DriveEnd V F)
        (ends : Ends S (course_left d.course + 1) p d middle driven) (legal : IsLegal S (reverse middle.front)) where
      each : AllDrive S n ends.own
      each = subst (λ k. AllDrive S k ends.own) starts.number ends.each

      along :
          (found_none S n ends.own ≡ false) × (sent_done S n ends.own ≡ true → Had (finishes n) (reverse middle.front))
          × IsOwn S p.number n (reverse middle.front)
      along = stays_there S law p.number n ends.own p.front middle.front ends.added.trail legal h.own each

      is_end : IsEnd S middle n ends.own driven
      is_end = subst (λ k. IsEnd S middle k ends.own driven) starts.number (ends.is [] begins_by)

      still_begun : KnowsBegun S (reverse middle.front) n stamp actions
      still_begun =
          let whole : reverse middle.front ≡ reverse ends.added.trail.rest ++ reverse p.front =
          ap reverse (sym ends.added.trail.is) ∙ beginning_is_tail p.front ends.added.trail.rest in
          subst (λ es. KnowsBegun S es n stamp actions) (sym whole)
          (begun_stays S law (reverse ends.added.trail.rest) (reverse p.front) (subst (IsLegal S) whole legal) n stamp actions h.begun)

      -- it is the pass's still
      pub still_own : IsOwn S middle.number n (reverse middle.front)
      still_own =
          let number : middle.number ≡ p.number = ap (λ (z : PassView (Event S)). z.number) ends.added.pass in
          subst (λ k. IsOwn S k n (reverse middle.front)) (sym number) along.2

      -- where it is over, it is done
      pub over_done : is_over driven ≡ true → Had (finishes n) (reverse middle.front)
      over_done over = along.1 (by_end driven is_end over)
        where
          by_end : (e : DriveEnd V F) → IsEnd S middle n ends.own e → is_over e ≡ true → sent_done S n ends.own ≡ true
          by_end DriveEnd.Committed is o = is.cause.1
          by_end (DriveEnd.Cancelled reasons) is o = is.cause.0.done
          by_end (DriveEnd.NoTable place) is o = is.cause.1.done
          by_end DriveEnd.Gone is o = absurd (cc)
          by_end DriveEnd.Stopped is o = absurd (cc)
          by_end DriveEnd.Spent is o = absurd (cc)
          by_end DriveEnd.NoMemory is o = absurd (cc)

      runs_so :
          (q : PassView (Event S)) → ForgetsDone S driven middle n q → IsEnd S q n ends.own driven → KnowsBegun S (reverse q.front) n stamp actions
          → RunsDrawn S n stamp actions p driven q
      runs_so q forgets is begun =
          let few = ends.few in
          let most = few_left S (told_nothing (length actions)) in
          let left_is = left d.course (told_nothing (length actions)) starts.course in
          record {
            own = ends.own;
            middle = middle;
            added = ends.added;
            exact = ends.exact;
            each = each;
            few = omega arith;
            is = is;
            there = is_end.gone ∙ along.0;
            begun = begun;
            forgets = forgets;
          }

      -- it was not done
      pub runs_undone : is_over driven ≡ false → RunsDrawn S n stamp actions p driven middle
      runs_undone over = runs_so middle (rests_done driven middle n over) is_end still_begun

      -- it was, and then its record was forgotten
      pub runs_done : (q : PassView (Event S)) → is_over driven ≡ true → Forgets S middle n q → IsLegal S (reverse q.front) → RunsDrawn S n stamp actions p driven q
      runs_done q over forgets later =
          let rest = (forgets_pass middle n q forgets).1.0 in
          let whole : reverse q.front ≡ reverse rest ++ reverse middle.front =
          ap reverse (sym (forgets_pass middle n q forgets).1.1) ∙ beginning_is_tail middle.front rest in
          let begun =
          subst (λ es. KnowsBegun S es n stamp actions) (sym whole)
          (begun_stays S law (reverse rest) (reverse middle.front) (subst (IsLegal S) whole later) n stamp actions still_begun) in
          runs_so q (over_forgets driven middle n q over forgets)
          (end_stays law middle q n stamp actions ends.own (reverse rest) whole later still_begun begun driven over is_end) begun

  -- the gate stopped it at once
  pub stopped_drawn :
      (p : PassView (Event S)) (n : ℕ) (stamp : Stamp) (actions : List A) → IsDrawn S p n stamp actions
      → RunsDrawn S n stamp actions p DriveEnd.Stopped p
  stopped_drawn p n stamp actions h = record {
    own = [];
    middle = p;
    added = added_by S 1 0 p [] p (omega arith) (counts_none S p);
    exact = λ _. exactly S p [] p (counts_none S p);
    each = tt;
    few = omega arith;
    is = record { gone = refl; cause = tt };
    there = refl;
    begun = h.begun;
    forgets = refl;
  }

  -- a Forget of the pass's own number
  pub forgets_own :
      IsServiceLawful S → (p q : PassView (Event S)) (cell : Option ℕ) (n : ℕ) (r : Result (Reply S) StepError) → IsOwn S p.number n (reverse p.front)
      → IfOk r (λ a. IsLater S (reverse p.front) (event_of p cell (Message.Forget n) a) (reverse q.front))
      → IfOk r (λ a. Counts S p (event_of p cell (Message.Forget n) a ∷ []) 0 q) → (r ≡ Err StepError.Spent ↔ (p.used ≡ most_units))
      → (r ≡ Err StepError.Spent → q ≡ p) → r ≢ Err StepError.NoMemory → Forgets S p n q
  forgets_own law p q cell n (Ok a) own later counts spent same sure =
      let told = own_forgotten S law p q cell n a counts.trail (subst (IsLegal S) later.is later.legal) own in
      inl (cell, subst (λ (y : Reply S). Counts S p (event_of p cell (Message.Forget n) y ∷ []) 0 q) told counts)
  forgets_own law p q cell n (Err StepError.Spent) own later counts spent same sure = inr (same refl, spent.0 refl)
  forgets_own law p q cell n (Err StepError.NoMemory) own later counts spent same sure = absurd (sure refl)

  module _ (token : Option (List ℕ)) (actions : List A) where
    -- a Begin was answered, or not
    pub turns_on :
        (p m q : PassView (Event S)) (cell : Option ℕ) (answer : Reply S) (end : Option (TransactEnd V F))
        → Counts S p (event_of p cell (Message.Begin token actions) answer ∷ []) 0 m
        → IsLater S (reverse p.front) (event_of p cell (Message.Begin token actions) answer) (reverse m.front) → Follows S actions answer m end q
        → Turns S token actions p end q
    turns_on p m q cell answer end begin later follows =
        inl record { cell = cell; answer = answer; middle = m; begin = begin; later = later; follows = follows }

    pub turns_not : (p q : PassView (Event S)) (why : StepError) → CountsUntil S p [] why q → Turns S token actions p (Some (unanswered why)) q
    turns_not p q why counts = inr (why, counts, refl)

    pub no_copies : (p : PassView (Event S)) → Turns S token actions p (Some TransactEnd.NoMemory) p
    no_copies p = inr (StepError.NoMemory, inl (counts_none S p), refl)

    -- where the Begin is to be sent again, units were used and nothing else of the pass changed
    record GoesOn (p q : PassView (Event S)) : Type 0 where
      pub pass : q ≡ record p { used = q.used; front = q.front }
      pub more : p.used < q.used

    by_answer :
        (p m q : PassView (Event S)) (a : Reply S) → m ≡ record p { used = m.used; front = m.front } → m.used ≡ p.used + 1
        → Follows S actions a m None q → GoesOn p q
    by_answer p m q (Answer.Begun n stamp) pass used h =
        let gone = none_by h.0 (sym h.2) in
        let there = sym (ap is_gone_end gone) ∙ h.1.there in absurd (cc)
    by_answer p m q (Answer.Running n) pass used h =
        let gone = none_by h.0 (sym h.2) in
        let units = h.1.exact (λ e. let k = sym gone ∙ e in cc) in
        record { pass = h.1.added.pass ∙ ap (λ (z : PassView (Event S)). record z { used = q.used; front = q.front }) pass; more = omega arith }
    by_answer p m q (Answer.Repeat n) pass used h = absurd (let e = h.1 in cc)
    by_answer p m q (Answer.Mismatch n) pass used h = absurd (let e = h.1 in cc)
    by_answer p m q Answer.Stale pass used h = absurd (let e = h.1 in cc)
    by_answer p m q _ pass used h = absurd h

    turn_goes_on : (p q : PassView (Event S)) → Turns S token actions p None q → GoesOn p q
    turn_goes_on p q (inl h) =
        let units = h.begin.units in by_answer p h.middle q h.answer h.begin.pass (omega arith) h.follows
    turn_goes_on p q (inr h) = absurd (let e = h.2 in cc)

    pub again_uses : (p q : PassView (Event S)) → Turns S token actions p None q → p.used < q.used
    again_uses p q h = (turn_goes_on p q h).more

    pub same_pass : (p : PassView (Event S)) (k : ℕ) (q : PassView (Event S)) → TurnsAgain S token actions p k q → q ≡ record p { used = q.used; front = q.front }
    same_pass p zero q h = h ∙ (λ j. record p { used = ap (λ (z : PassView (Event S)). z.used) (sym h) j; front = ap (λ (z : PassView (Event S)). z.front) (sym h) j })
    same_pass p (suc k) q h =
        let before = same_pass p k h.0 h.1 in
        (turn_goes_on h.0 q h.2).pass ∙ ap (λ (z : PassView (Event S)). record z { used = q.used; front = q.front }) before

    pub writes : (p : PassView (Event S)) (k : ℕ) (m q : PassView (Event S)) (end : TransactEnd V F) → TurnsAgain S token actions p k m → Turns S token actions m (Some end) q → Writes S token actions p end q
    writes p k m q end before turn = record { again = k; last = m; before = before; turn = turn }

    -- memory was refused before anything was sent
    pub writes_none : (p : PassView (Event S)) → Writes S token actions p TransactEnd.NoMemory p
    writes_none p = writes p 0 p p TransactEnd.NoMemory refl (no_copies p)

    -- a Begin after which it is to be sent again
    pub turns_again :
        (p : PassView (Event S)) (k : ℕ) (m q : PassView (Event S)) (end : Option (TransactEnd V F)) → end ≡ None → TurnsAgain S token actions p k m
        → Turns S token actions m end q → TurnsAgain S token actions p (suc k) q
    turns_again p k m q end none before turn = (m, before, subst (λ o. Turns S token actions m o q) none turn)
