-- What the driver of one transaction adds to the history, and what it knows of it.
use Rattle.std.specs.Prelude.{◌≡◌, ℕ, ◌+◌, ◌≤◌, Bool, true, false, ◌&&◌, nat_eq, List, [], ◌∷◌, ◌++◌, length, map, drop, reverse, slice_get, Option, None, Some, is_some, IfSome, if◌then◌else◌}
use Rattle.std.specs.List.{list_any, AllByRecursion}
use Rattle.coordinator.specs.declared.gate.Point.{Point}
use Rattle.turnstile.specs.Histories.{Trail}
use Rattle.turnstile.specs.Passes.{PassView}
use Rattle.txn_core.specs.declared.message.Message.{Message}
use Rattle.txn_core.specs.declared.answer.Answer.{Answer}
use Rattle.txn_core.specs.declared.verdict.Verdict.{Verdict}
use Rattle.txn_core.specs.declared.fate.Fate.{Fate}
use Rattle.txn_core.specs.declared.fate.Fate.TheVariants.{Undecided, Committed, Cancelled, Gone}
use Rattle.txn_core.specs.declared.reason.Reason.{Reason}
use Rattle.txn_core.specs.declared.course.Course.{Course}
use Rattle.txn_core.specs.declared.course.Move.{Move}
use Rattle.txn_core.specs.Course.{Told, IsToldSo, is_known, next_move, with_verdict}
use Rattle.txn_core.specs.Driver.{is_no_table, no_reason, verdict_of, reason_in, course_left, KnowsBegun, Knows, KnowsReasons}
use Rattle.txn_core.specs.History.{effects, reasons_of, is_stale}
use Rattle.txn_core.specs.Legal.{prepares}
use Rattle.txn_core.specs.Serial.{begun_actions}
use Rattle.txn_core.specs.Service.{Service, Event, History}
use Rattle.cluster.specs.Events.{pass_of, event_of}
use Rattle.cluster.specs.Steps.{IsLater}
use Rattle.cluster.specs.declared.step.StepError.{StepError}
use Rattle.cluster.specs.Counts.{AllAt, Counts, CountsUntil}
use Rattle.coordinator.specs.declared.driver.Driver.{Driver}
use Rattle.coordinator.specs.declared.record.Record.{Record}

abbrev pub is_gone : Fate → Bool
is_gone Gone = true
is_gone _ = false

module _ {K V A F D Q : Type 0} where
  -- the message is one of those that drive the transaction of this number
  abbrev pub is_driving : ℕ → Message K V A F D Q → Bool
  is_driving n (Message.Recall m) = nat_eq m n
  is_driving n (Message.Prepare m stamp action) = nat_eq m n
  is_driving n (Message.Decide m commit reasons) = nat_eq m n
  is_driving n (Message.Apply m key) = nat_eq m n
  is_driving n (Message.Release m key) = nat_eq m n
  is_driving n (Message.Done m) = nat_eq m n
  is_driving n _ = false

  -- it decides or ends the transaction
  abbrev pub is_ending : ℕ → Message K V A F D Q → Bool
  is_ending n (Message.Decide m commit reasons) = nat_eq m n
  is_ending n (Message.Apply m key) = nat_eq m n
  is_ending n (Message.Release m key) = nat_eq m n
  is_ending n (Message.Done m) = nat_eq m n
  is_ending n _ = false

  abbrev pub is_done : ℕ → Message K V A F D Q → Bool
  is_done n (Message.Done m) = nat_eq m n
  is_done n _ = false

  -- what an action's item is sent once the transaction has this fate
  abbrev pub last_message : Fate → ℕ → K → Message K V A F D Q
  last_message Committed n key = Message.Apply n key
  last_message _ n key = Message.Release n key

  -- the message found no such transaction
  abbrev pub finds_none : {B : Type 0} → ℕ → Message K V A F D Q → Answer K V A F B → Bool
  finds_none n (Message.Recall m) Answer.Unknown = nat_eq m n
  finds_none n (Message.Decide m commit reasons) (Answer.Decided Gone first) = nat_eq m n
  finds_none n _ _ = false

abbrev pub last_move : Fate → ℕ → Move
last_move Committed place = Move.Apply place
last_move _ place = Move.Release place

-- the point at which a transaction is after a move; the end is none
abbrev pub point_after : Move → Option Point
point_after (Move.Prepare place) = Some (Point.AfterPrepare place)
point_after Move.Commit = Some Point.AfterDecide
point_after Move.Cancel = Some Point.AfterDecide
point_after (Move.Apply place) = Some (Point.AfterFinish place)
point_after (Move.Release place) = Some (Point.AfterFinish place)
point_after Move.Done = Some Point.AfterDone
point_after Move.End = None

-- this is the next move of the course
abbrev pub IsNext : Course → Move → Type 0
IsNext course move = (told : Told) → IsToldSo course told → next_move told ≡ move

-- the reasons that a cancel carries: those that were found, or none where a table is gone
abbrev pub carried_reasons : {V F : Type 0} → Bool → List (Reason V F) → List (Reason V F)
carried_reasons finds_no_table found = if finds_no_table then map no_reason found else found

module _ {A V F : Type 0} where
  -- what a cancel is to carry is made, and a copy of it
  pub record IsReady (d : Driver A V F) : Type 0 where
    pub carried : d.carried ≡ carried_reasons (is_some d.no_table) d.found
    pub copy : d.copy ≡ d.carried

  -- the driver took down the verdict and the reason in the answer to the Prepare of the action at this place
  pub record Notes {K B : Type 0} (d : Driver A V F) (place : ℕ) (a : Answer K V A F B) (new : Driver A V F) : Type 0 where
    pub verdict : Verdict
    pub told : verdict_of a ≡ Some verdict
    pub course : (told : Told) → IsToldSo d.course told → IsToldSo new.course (with_verdict told verdict)
    pub found : new.found ≡ d.found ++ reason_in a ∷ []
    pub no_table : new.no_table ≡ (if is_no_table verdict then Some place else d.no_table)
    pub same : new ≡ record d { course = new.course; found = new.found; no_table = new.no_table }

module _ {K V A F C D Q B : Type 0} (S : Service K V A F C D Q B) where
  -- from p to q the pass added these own entries and no other, at its moment, for one unit each and at most so many more
  pub record Added (spare : ℕ) (p : PassView (Event S)) (own : List (Event S)) (q : PassView (Event S)) : Type 0 where
    pub pass : q ≡ record p { used = q.used; front = q.front }
    pub trail : Trail pass_of p.number p.front own q.front
    pub moments : AllAt S p.moment own
    pub units : q.used ≤ p.used + length own + spare

  abbrev pub AllDrive : ℕ → List (Event S) → Type 0
  AllDrive n own = AllByRecursion (λ e. is_driving n e.message ≡ true) own

  -- some of these entries found no such transaction; decided or ended it; was its Done
  abbrev pub found_none : ℕ → List (Event S) → Bool
  found_none n own = list_any (λ e. finds_none n e.message e.answer) own

  abbrev pub ended : ℕ → List (Event S) → Bool
  ended n own = list_any (λ e. is_ending n e.message) own

  abbrev pub sent_done : ℕ → List (Event S) → Bool
  sent_done n own = list_any (λ e. is_done n e.message) own

  -- one of them is a Prepare of the number's action at this place that was answered Stale
  pub record FoundGone (es : History S) (n : ℕ) (own : List (Event S)) (place : ℕ) : Type 0 where
    pub action : A
    pub its_place : slice_get (begun_actions (effects es) n) place ≡ Some action
    pub stale : list_any (λ e. prepares S n (S.core.key_of action) e.message && is_stale e.answer) own ≡ true

  -- from these entries the driver knows what its transaction was begun with and all that its course was told, with a reason for
  -- each verdict, until it is decided
  pub record IsDriver (es : History S) (d : Driver A V F) : Type 0 where
    pub told : Told
    pub told_so : IsToldSo d.course told
    pub actions : List A
    pub begun : KnowsBegun S es d.number d.stamp actions
    pub knows : Knows S es d.number told
    pub left : d.actions.items ≡ drop told.done actions
    pub found : told.fate ≡ Undecided → KnowsReasons S es d.number told d.found
    pub tables : is_some d.no_table ≡ list_any is_no_table told.verdicts
    pub ready : next_move told ≡ Move.Cancel → IsReady d
    pub reasons : IfSome d.reasons (λ reasons. (told.fate ≡ Cancelled) × (reasons_of es d.number ≡ reasons))
    pub fate : d.fate ≡ told.fate

  -- what its own entries since its record was asked for say of the driver
  pub record DrivenBy (es : History S) (own : List (Event S)) (d : Driver A V F) : Type 0 where
    pub gone : is_gone d.fate ≡ found_none d.number own
    pub undecided : d.fate ≡ Undecided → ended d.number own ≡ false
    pub done : is_known d.fate ≡ true → IsNext d.course Move.End → sent_done d.number own ≡ true
    pub table : IfSome d.no_table (FoundGone es d.number own)

  -- from d at p the driver went on to e at q, each own entry for a move and a unit
  pub record Advances (p : PassView (Event S)) (d : Driver A V F) (q : PassView (Event S)) (e : Driver A V F) : Type 0 where
    pub own : List (Event S)
    pub added : Counts S p own 0 q
    pub each : AllDrive d.number own
    pub fewer : length own + course_left e.course ≤ course_left d.course
    pub same : e.number ≡ d.number
    pub knows : IsDriver (reverse q.front) e
    pub driven : (older : List (Event S)) → DrivenBy (reverse p.front) older d → DrivenBy (reverse q.front) (older ++ own) e

  -- from d at p the driver went on and then gave up: without memory before the decision alone, or without a unit
  pub record Fails (p : PassView (Event S)) (d : Driver A V F) (error : StepError) (q : PassView (Event S)) : Type 0 where
    pub own : List (Event S)
    pub added : CountsUntil S p own error q
    pub each : AllDrive d.number own
    pub few : length own ≤ course_left d.course
    pub there : (older : List (Event S)) → DrivenBy (reverse p.front) older d → found_none d.number (older ++ own) ≡ false
    pub early :
        error ≡ StepError.NoMemory → (older : List (Event S)) → DrivenBy (reverse p.front) older d → ended d.number (older ++ own) ≡ false

  -- a Recall of the number that was answered by this record
  abbrev pub recalled : PassView (Event S) → Option ℕ → ℕ → Record A V F → Event S
  recalled p cell n r = event_of p cell (Message.Recall n) (Answer.Known r.fate r.stamp r.actions r.reasons)

  -- the record of the number was asked for, and this is it
  pub record Recalls (n : ℕ) (p : PassView (Event S)) (r : Record A V F) (q : PassView (Event S)) : Type 0 where
    pub cell : Option ℕ
    pub added : Counts S p (recalled p cell n r ∷ []) 0 q
    pub later : IsLater S (reverse p.front) (recalled p cell n r) (reverse q.front)

  -- it was asked for, and there is none
  pub record FindsNone (n : ℕ) (p q : PassView (Event S)) : Type 0 where
    pub cell : Option ℕ
    pub added : Counts S p (event_of p cell (Message.Recall n) Answer.Unknown ∷ []) 0 q

  -- it was asked for, and then no more was done, for want of memory or of a unit
  pub record Misses (n : ℕ) (p : PassView (Event S)) (error : StepError) (q : PassView (Event S)) : Type 0 where
    pub own : List (Event S)
    pub added : CountsUntil S p own error q
    pub few : length own ≤ 1
    pub each : AllDrive n own
    pub there : found_none n own ≡ false
    pub early : ended n own ≡ false

  -- from p to q the record of the number was asked for, and the driver begins with it
  pub record Begins (n : ℕ) (p q : PassView (Event S)) (d : Driver A V F) : Type 0 where
    pub own : List (Event S)
    pub added : Counts S p own 0 q
    pub few : length own ≤ 1
    pub each : AllDrive n own
    pub same : d.number ≡ n
    pub knows : IsDriver (reverse q.front) d
    pub driven : DrivenBy (reverse q.front) own d
