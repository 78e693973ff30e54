-- How a transaction is driven to its end, and what own entries say of it.
use Rattle.std.specs.Prelude.{◌≡◌, ◌≢◌, ◌⊎◌, ℕ, ◌+◌, ◌*◌, ◌≤◌, Bool, true, false, List, ◌++◌, length, reverse, Option, IfSome, if◌then◌else◌}
use Rattle.std.specs.List.{list_all}
use Rattle.turnstile.specs.Passes.{PassView, most_units}
use Rattle.txn_core.specs.declared.reason.Reason.{Reason}
use Rattle.txn_core.specs.History.{effects, Had, commits, cancels, reasons_of}
use Rattle.txn_core.specs.Serial.{begun_actions}
use Rattle.txn_core.specs.Service.{Service, Event, History}
use Rattle.cluster.specs.declared.step.StepError.{StepError}
use Rattle.coordinator.specs.declared.driver.Driver.{Driver}
use Rattle.coordinator.specs.declared.drive_end.DriveEnd.{DriveEnd}
use Rattle.coordinator.specs.Driving.{Added, AllDrive, found_none, ended, sent_done, FoundGone, DrivenBy}

module _ {V F : Type 0} where
  abbrev pub is_none : Reason V F → Bool
  is_none Reason.None = true
  is_none _ = false

  -- the end of a transaction that was cancelled with these reasons: where each is none, the table of an action was gone
  abbrev pub cancelled : List (Reason V F) → Option ℕ → DriveEnd V F
  cancelled reasons place = if list_all is_none reasons then DriveEnd.NoTable place else DriveEnd.Cancelled reasons

  -- the end where a step was not taken
  abbrev pub given_up : StepError → DriveEnd V F
  given_up StepError.Spent = DriveEnd.Spent
  given_up StepError.NoMemory = DriveEnd.NoMemory

  abbrev pub is_gone_end : DriveEnd V F → Bool
  is_gone_end DriveEnd.Gone = true
  is_gone_end _ = false

module _ {K V A F C D Q B : Type 0} (S : Service K V A F C D Q B) where
  -- the number is cancelled with these reasons, and an own entry is its Done
  pub record IsCancelled (es : History S) (n : ℕ) (own : List (Event S)) (reasons : List (Reason V F)) : Type 0 where
    pub cancelled : Had (cancels n) es
    pub reasons_are : reasons_of es n ≡ reasons
    pub done : sent_done S n own ≡ true

  -- the cause of an end, by its own entries and what the pass has seen: memory was refused only before the decision, or when all
  -- was done and the reasons of another driver's cancel were asked for
  abbrev pub HasCause : PassView (Event S) → ℕ → List (Event S) → DriveEnd V F → Type 0
  HasCause q n own DriveEnd.Committed = Had (commits n) (reverse q.front) × (sent_done S n own ≡ true)
  HasCause q n own (DriveEnd.Cancelled reasons) = IsCancelled (reverse q.front) n own reasons × (list_all is_none reasons ≡ false)
  HasCause q n own (DriveEnd.NoTable place) =
      (reasons : List (Reason V F)) × IsCancelled (reverse q.front) n own reasons × (list_all is_none reasons ≡ true)
      × IfSome place (FoundGone S (reverse q.front) n own)
  HasCause q n own DriveEnd.Gone = Unit {0}
  HasCause q n own DriveEnd.Stopped = Unit {0}
  HasCause q n own DriveEnd.Spent = q.used ≡ most_units
  HasCause q n own DriveEnd.NoMemory = (ended S n own ≡ false) ⊎ (sent_done S n own ≡ true)

  -- no transaction was left between its decision and its end: of each that one of these entries decided or ended, one is the Done, or
  -- found no record
  abbrev pub LeavesNoneDecided : List (Event S) → Type 0
  LeavesNoneDecided own = (n : ℕ) → ended S n own ≡ true → (sent_done S n own ≡ true) ⊎ (found_none S n own ≡ true)

  -- the end is that of a drive with these own entries: the number is gone exactly where one of them found none
  pub record IsEnd (q : PassView (Event S)) (n : ℕ) (own : List (Event S)) (end : DriveEnd V F) : Type 0 where
    pub gone : is_gone_end end ≡ found_none S n own
    pub cause : HasCause q n own end

  -- from d at p the driver came to this end at q, by at most so many own entries, for one unit each; where memory was refused one
  -- unit more may be used
  pub record Ends (most : ℕ) (p : PassView (Event S)) (d : Driver A V F) (q : PassView (Event S)) (end : DriveEnd V F) : Type 0 where
    pub own : List (Event S)
    pub added : Added S 1 p own q
    pub exact : end ≢ DriveEnd.NoMemory → q.used ≡ p.used + length own
    pub each : AllDrive S d.number own
    pub few : length own ≤ most
    pub is : (older : List (Event S)) → DrivenBy S (reverse p.front) older d → IsEnd q d.number (older ++ own) end

  -- from p to q the number was driven to this end: its record, a Prepare and a last message for each action, the decision and the
  -- Done, and the record again where its reasons are another driver's
  pub record Drives (n : ℕ) (p q : PassView (Event S)) (end : DriveEnd V F) : Type 0 where
    pub own : List (Event S)
    pub added : Added S 1 p own q
    pub exact : end ≢ DriveEnd.NoMemory → q.used ≡ p.used + length own
    pub each : AllDrive S n own
    pub few : length own ≤ 2 * length (begun_actions (effects (reverse q.front)) n) + 4
    pub is : IsEnd q n own end
