-- How a drive ends.
use Rattle.std.proofs.Common.{◌≡◌, ◌≢◌, ◌⊎◌, inl, inr, ℕ, ◌+◌, ◌*◌, ◌≤◌, true, false, ◌||◌, List, [], ◌∷◌, ◌++◌, length, reverse, Option, None, Some, IfSome, IfNone, refl, sym, ap, ◌∙◌, subst, arith, eq-eqb, length-append}
use Rattle.std.specs.List.{list_all}
use Rattle.std.proofs.lemmas.Bool.{cond_both}
use Rattle.std.proofs.lemmas.List.{append-nil, append_assoc}
use Rattle.turnstile.specs.Passes.{PassView, most_units}
use Rattle.txn_core.specs.declared.fate.Fate.{Fate}
use Rattle.txn_core.specs.declared.fate.Fate.TheVariants.{Undecided, Committed, Cancelled, Gone}
use Rattle.txn_core.specs.declared.reason.Reason.{Reason}
use Rattle.txn_core.specs.declared.message.Message.{Message}
use Rattle.txn_core.specs.declared.answer.Answer.{Answer}
use Rattle.txn_core.specs.declared.course.Move.{Move}
use Rattle.txn_core.specs.Course.{Told, is_known}
use Rattle.txn_core.specs.Driver.{course_left, moves_at, moves_left, KnowsBegun}
use Rattle.txn_core.specs.History.{effects, Had, cancels, reasons_of}
use Rattle.txn_core.specs.Legal.{IsLegal}
use Rattle.txn_core.specs.Serial.{begun_actions}
use Rattle.txn_core.specs.Service.{Service, IsServiceLawful, Event, History}
use Rattle.txn_core.proofs.Exports.{beginning_is_tail, begun_stays, had_stays, left, ended as course_ended, reasons_recalled}
use Rattle.cluster.specs.declared.step.StepError.{StepError}
use Rattle.cluster.proofs.OwnEntries.{counts_none}
use Rattle.cluster.proofs.Lists.{any_back, any_front, each_append}
use Rattle.cluster.specs.Events.{event_of}
use Rattle.coordinator.specs.declared.driver.Driver.{Driver}
use Rattle.coordinator.specs.declared.drive_end.DriveEnd.{DriveEnd}
use Rattle.coordinator.specs.declared.record.Record.{Record}
use Rattle.coordinator.specs.Driving.{is_gone, is_driving, is_done, finds_none, IsNext, AllDrive, found_none, ended, sent_done, FoundGone, IsDriver, DrivenBy, Advances, Fails, Recalls, FindsNone, Misses, Begins, recalled as recalled_by}
use Rattle.coordinator.specs.Drives.{is_none, cancelled, given_up, IsCancelled, IsEnd, Ends, Drives}
use Rattle.coordinator.proofs.Moving.{added_after, added_by, exactly, until_added, until_exact, until_spent}
use Rattle.coordinator.proofs.Driven.{found_on, none_both}
use Rattle.coordinator.proofs.Finishing.{some_weaker}

-- what holds where nothing is there
pub none_so : {X : Type 0} (o : Option X) (T : Type 0) → IfNone o T → ((x : X) → o ≡ Some x → ⊥) → T
none_so None T h none = h
none_so (Some x) T h none = absurd (none x refl)

module _ {V F : Type 0} where
  -- a gate alone stops
  pub cancelled_goes_on : (reasons : List (Reason V F)) (place : Option ℕ) → cancelled reasons place ≡ DriveEnd.Stopped → ⊥
  cancelled_goes_on reasons place e =
      cond_both (list_all is_none reasons) (DriveEnd.NoTable place) (DriveEnd.Cancelled reasons) (λ end. end ≡ DriveEnd.Stopped → ⊥) (λ _ h. cc)
      (λ _ h. cc) e

  pub given_up_goes_on : (error : StepError) → given_up {V = V} {F = F} error ≡ DriveEnd.Stopped → ⊥
  given_up_goes_on StepError.Spent e = cc
  given_up_goes_on StepError.NoMemory e = cc

  -- an end without want of memory is of a step that had memory
  pub remembers : (error : StepError) → given_up {V = V} {F = F} error ≢ DriveEnd.NoMemory → error ≢ StepError.NoMemory
  remembers StepError.Spent sure e = cc
  remembers StepError.NoMemory sure e = sure refl

module _ {K V A F C D Q B : Type 0} (S : Service K V A F C D Q B) where
  -- the end of a cancel with these reasons
  pub cancelled_end :
      (q : PassView (Event S)) (n : ℕ) (own : List (Event S)) (reasons : List (Reason V F)) (place : Option ℕ)
      → IsCancelled S (reverse q.front) n own reasons → found_none S n own ≡ false → IfSome place (FoundGone S (reverse q.front) n own)
      → IsEnd S q n own (cancelled reasons place)
  cancelled_end q n own reasons place is none table =
      cond_both (list_all is_none reasons) (DriveEnd.NoTable place) (DriveEnd.Cancelled reasons) (λ end. IsEnd S q n own end)
      (λ all. record { gone = sym none; cause = (reasons, is, all, table) }) (λ some. record { gone = sym none; cause = (is, some) })

  -- the end where a message was not sent, or not answered
  given_up_end :
      (q : PassView (Event S)) (n : ℕ) (own : List (Event S)) (error : StepError) → found_none S n own ≡ false
      → (error ≡ StepError.NoMemory → (ended S n own ≡ false) ⊎ (sent_done S n own ≡ true)) → (error ≡ StepError.Spent → q.used ≡ most_units)
      → IsEnd S q n own (given_up error)
  given_up_end q n own StepError.Spent none early spent = record { gone = sym none; cause = spent refl }
  given_up_end q n own StepError.NoMemory none early spent = record { gone = sym none; cause = early refl }

  -- a course at its end is decided
  pub not_undecided : (es : History S) (d : Driver A V F) → IsDriver S es d → IsNext d.course Move.End → d.fate ≡ Undecided → ⊥
  not_undecided es d is end none =
      let left_is = (course_ended is.told).0 (end is.told is.told_so) in
      let some = ap (λ f. moves_at f is.told) (sym is.fate ∙ none) in
      absurd (omega arith)

  module _ (p : PassView (Event S)) (d : Driver A V F) where
    -- with no more own entry
    at_once :
        (end : DriveEnd V F) → ((older : List (Event S)) → DrivenBy S (reverse p.front) older d → IsEnd S p d.number older end) → Ends S 1 p d p end
    at_once end is =
        record {
          own = [];
          added = added_by S 1 0 p [] p (omega arith) (counts_none S p);
          exact = λ _. exactly S p [] p (counts_none S p);
          each = tt;
          few = omega arith;
          is = λ older h. subst (λ xs. IsEnd S p d.number xs end) (sym (append-nil older)) (is older h);
        }

    pub closes_committed :
        IsDriver S (reverse p.front) d → IsNext d.course Move.End → d.fate ≡ Committed → Ends S 1 p d p DriveEnd.Committed
    closes_committed is end fate =
        at_once DriveEnd.Committed (λ older h. record {
          gone = sym (ap is_gone fate) ∙ h.gone;
          cause = (is.knows.committed (sym is.fate ∙ fate), h.done (ap is_known fate) end);
        })

    pub closes_gone : d.fate ≡ Gone → Ends S 1 p d p DriveEnd.Gone
    closes_gone fate = at_once DriveEnd.Gone (λ older h. record { gone = sym (ap is_gone fate) ∙ h.gone; cause = tt })

    module _ (is : IsDriver S (reverse p.front) d) (end : IsNext d.course Move.End) (fate : d.fate ≡ Cancelled) where
      had : Had (cancels d.number) (reverse p.front)
      had = is.knows.cancelled (sym is.fate ∙ fate)

      none_gone : (older : List (Event S)) → DrivenBy S (reverse p.front) older d → found_none S d.number older ≡ false
      none_gone older h = sym h.gone ∙ ap is_gone fate

      done : (older : List (Event S)) → DrivenBy S (reverse p.front) older d → sent_done S d.number older ≡ true
      done older h = h.done (ap is_known fate) end

      -- its reasons are known
      pub closes_known : (reasons : List (Reason V F)) → d.reasons ≡ Some reasons → Ends S 1 p d p (cancelled reasons d.no_table)
      closes_known reasons known =
          at_once (cancelled reasons d.no_table) (λ older h.
          cancelled_end p d.number older reasons d.no_table
          record {
            cancelled = had;
            reasons_are = (subst (λ o. IfSome o (λ rs. (is.told.fate ≡ Cancelled) × (reasons_of (reverse p.front) d.number ≡ rs))) known is.reasons).1;
            done = done older h;
          } (none_gone older h) h.table)

      -- they are those of the record
      pub closes_recalled :
          IsServiceLawful S → (q : PassView (Event S)) (r : Record A V F) → Recalls S d.number p r q → Ends S 1 p d q (cancelled r.reasons d.no_table)
      closes_recalled law q r h =
          let n = d.number in
          let e : Event S = recalled_by S p h.cell n r in
          let past : History S = h.later.newer ++ reverse p.front in
          let told = reasons_recalled S law past p.moment n r.fate r.actions r.stamp r.reasons h.later.legal.1.answer in
          let still = begun_stays S law (e ∷ h.later.newer) (reverse p.front) h.later.legal n d.stamp is.actions is.begun in
          record {
            own = e ∷ [];
            added = added_by S 1 0 p (e ∷ []) q (omega arith) h.added;
            exact = λ _. exactly S p (e ∷ []) q h.added;
            each = (eq-eqb n n refl, tt);
            few = omega arith;
            is = λ older by.
                cancelled_end q n (older ++ e ∷ []) r.reasons d.no_table
                record {
                  cancelled = subst (λ es. Had (cancels n) es) h.later.is (had_stays (cancels n) (e ∷ h.later.newer) (reverse p.front) had);
                  reasons_are = subst (λ es. reasons_of es n ≡ r.reasons) h.later.is told;
                  done = any_front (λ x. is_done n x.message) older (e ∷ []) (done older by);
                }
                (none_both (λ x. finds_none n x.message x.answer) older (e ∷ []) (none_gone older by) refl)
                (some_weaker d.no_table by.table
                (λ place found.
                found_on S (reverse p.front) (reverse q.front) n place d.stamp is.actions older (e ∷ []) is.begun
                (subst (λ es. KnowsBegun S es n d.stamp is.actions) h.later.is still) found));
          }

      -- there is no record any more
      pub closes_forgotten : (q : PassView (Event S)) → FindsNone S d.number p q → Ends S 1 p d q DriveEnd.Gone
      closes_forgotten q h =
          let n = d.number in
          let e : Event S = event_of p h.cell (Message.Recall n) Answer.Unknown in
          record {
            own = e ∷ [];
            added = added_by S 1 0 p (e ∷ []) q (omega arith) h.added;
            exact = λ _. exactly S p (e ∷ []) q h.added;
            each = (eq-eqb n n refl, tt);
            few = omega arith;
            is = λ older by. record {
              gone = sym (any_back (λ x. finds_none n x.message x.answer) older (e ∷ []) (ap (λ b. b || false) (eq-eqb n n refl)));
              cause = tt;
            };
          }

      pub closes_in_vain : (q : PassView (Event S)) (error : StepError) → Misses S d.number p error q → Ends S 1 p d q (given_up error)
      closes_in_vain q error h =
          let n = d.number in
          record {
            own = h.own;
            added = until_added S p h.own q error h.added;
            exact = λ sure. until_exact S p h.own q error h.added (remembers error sure);
            each = h.each;
            few = h.few;
            is = λ older by.
                given_up_end q n (older ++ h.own) error
                (none_both (λ x. finds_none n x.message x.answer) older h.own (none_gone older by) h.there)
                (λ _. inr (any_front (λ x. is_done n x.message) older h.own (done older by))) (until_spent S p h.own q error h.added);
          }

  -- the ends of a driver that went on
  module _ (p q : PassView (Event S)) (d : Driver A V F) where
    pub ends_failed : (error : StepError) → Fails S p d error q → Ends S (course_left d.course + 1) p d q (given_up error)
    ends_failed error h =
        let few = h.few in
        record {
          own = h.own;
          added = until_added S p h.own q error h.added;
          exact = λ sure. until_exact S p h.own q error h.added (remembers error sure);
          each = h.each;
          few = omega arith;
          is = λ older by.
              given_up_end q d.number (older ++ h.own) error (h.there older by) (λ e. inl (h.early e older by))
              (until_spent S p h.own q error h.added);
        }

    pub ends_stopped : (e : Driver A V F) → Advances S p d q e → is_gone e.fate ≡ false → Ends S (course_left d.course + 1) p d q DriveEnd.Stopped
    ends_stopped e h there =
        let fewer = h.fewer in
        record {
          own = h.own;
          added = added_by S 1 0 p h.own q (omega arith) h.added;
          exact = λ _. exactly S p h.own q h.added;
          each = h.each;
          few = omega arith;
          is = λ older by. record {
            gone = sym there ∙ ((h.driven older by).gone ∙ ap (λ k. found_none S k (older ++ h.own)) h.same);
            cause = tt;
          };
        }

    pub ends_closed :
        (r : PassView (Event S)) (e : Driver A V F) (end : DriveEnd V F) → Advances S p d q e → Ends S 1 q e r end
        → Ends S (course_left d.course + 1) p d r end
    ends_closed r e end one two =
        let fewer = one.fewer in
        let few = two.few in
        let long = length-append one.own two.own in
        let units = one.added.units in
        record {
          own = one.own ++ two.own;
          added = added_after S 1 p q r one.own two.own one.added two.added;
          exact = λ sure. (let later = two.exact sure in omega arith);
          each = each_append (λ x. is_driving d.number x.message ≡ true) one.own two.own one.each (subst (λ k. AllDrive S k two.own) one.same two.each);
          few = omega arith;
          is = λ older by.
              subst (λ xs. IsEnd S r d.number xs end) (append_assoc older one.own two.own)
              (subst (λ k. IsEnd S r k ((older ++ one.own) ++ two.own) end) one.same (two.is (older ++ one.own) (one.driven older by)));
        }

  -- the ends of a whole drive
  module _ (n : ℕ) (p q : PassView (Event S)) where
    pub drives_none : FindsNone S n p q → Drives S n p q DriveEnd.Gone
    drives_none h =
        let e : Event S = event_of p h.cell (Message.Recall n) Answer.Unknown in
        record {
          own = e ∷ [];
          added = added_by S 1 0 p (e ∷ []) q (omega arith) h.added;
          exact = λ _. exactly S p (e ∷ []) q h.added;
          each = (eq-eqb n n refl, tt);
          few = omega arith;
          is = record { gone = sym (ap (λ b. b || false) (eq-eqb n n refl)); cause = tt };
        }

    pub drives_in_vain : (error : StepError) → Misses S n p error q → Drives S n p q (given_up error)
    drives_in_vain error h =
        let few = h.few in
        record {
          own = h.own;
          added = until_added S p h.own q error h.added;
          exact = λ sure. until_exact S p h.own q error h.added (remembers error sure);
          each = h.each;
          few = omega arith;
          is = given_up_end q n h.own error h.there (λ _. inl h.early) (until_spent S p h.own q error h.added);
        }

  -- a course has at most two moves an action left, and two more
  pub few_left : (told : Told) → moves_left told ≤ 2 * told.actions + 2
  few_left told = at_fate told.fate
    where
      at_fate : (f : Fate) → moves_at f told ≤ 2 * told.actions + 2
      at_fate Undecided = omega arith
      at_fate Committed = omega arith
      at_fate Cancelled = omega arith
      at_fate Gone = omega arith

  pub drives_whole :
      IsServiceLawful S → (n : ℕ) (p q r : PassView (Event S)) (d : Driver A V F) (end : DriveEnd V F) → Begins S n p q d
      → Ends S (course_left d.course + 1) q d r end → IsLegal S (reverse r.front) → Drives S n p r end
  drives_whole law n p q r d end one two legal =
      let is = one.knows in
      let rest = two.added.trail.rest in
      let whole : reverse r.front ≡ reverse rest ++ reverse q.front =
      ap reverse (sym two.added.trail.is) ∙ beginning_is_tail q.front rest in
      let still =
      begun_stays S law (reverse rest) (reverse q.front) (subst (IsLegal S) whole legal) d.number d.stamp is.actions is.begun in
      let later = subst (λ es. KnowsBegun S es d.number d.stamp is.actions) (sym whole) still in
      let its : length (begun_actions (effects (reverse r.front)) n) ≡ length is.actions =
      ap (λ k. length (begun_actions (effects (reverse r.front)) k)) (sym one.same) ∙ ap length later.its_actions in
      let many : is.told.actions ≡ length is.actions = is.knows.many ∙ ap length is.begun.its_actions in
      let left_is = left d.course is.told is.told_so in
      let most = few_left is.told in
      let few = one.few in
      let more = two.few in
      let long = length-append one.own two.own in
      let units = one.added.units in
      record {
        own = one.own ++ two.own;
        added = added_after S 1 p q r one.own two.own one.added two.added;
        exact = λ sure. (let later = two.exact sure in omega arith);
        each = each_append (λ x. is_driving n x.message ≡ true) one.own two.own one.each (subst (λ k. AllDrive S k two.own) one.same two.each);
        few = omega arith;
        is = subst (λ k. IsEnd S r k (one.own ++ two.own) end) one.same (two.is one.own one.driven);
      }
