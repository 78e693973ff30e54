-- How a whole transaction is written, from its Begin to its Forget, and what own entries say of it.
use Rattle.std.specs.Prelude.{◌≡◌, ◌≢◌, ◌⊎◌, ℕ, zero, suc, ◌+◌, ◌*◌, ◌≤◌, Bool, true, false, ◌&&◌, nat_eq, List, [], ◌∷◌, length, reverse, Option, None, Some, IfSome}
use Rattle.std.specs.List.{list_any, list_all, filter, AllByRecursion}
use Rattle.turnstile.specs.Histories.{Has}
use Rattle.turnstile.specs.Passes.{PassView, most_units}
use Rattle.txn_core.specs.declared.message.Message.{Message}
use Rattle.txn_core.specs.declared.answer.Answer.{Answer}
use Rattle.txn_core.specs.declared.fate.Fate.{Fate}
use Rattle.txn_core.specs.declared.reason.Reason.{Reason}
use Rattle.txn_core.specs.declared.stamp.Stamp.{Stamp}
use Rattle.txn_core.specs.Course.{IsToldSo}
use Rattle.txn_core.specs.Driver.{told_nothing, KnowsBegun, Knows}
use Rattle.txn_core.specs.History.{effects, Had, commits, finishes, forgets, is_own_begin}
use Rattle.txn_core.specs.Replay.{are_apart}
use Rattle.txn_core.specs.Serial.{begun_actions}
use Rattle.txn_core.specs.Service.{Service, Asked, Reply, Event, History}
use Rattle.cluster.specs.declared.step.StepError.{StepError}
use Rattle.cluster.specs.Events.{event_of}
use Rattle.cluster.specs.Steps.{IsLater}
use Rattle.cluster.specs.Counts.{Counts, CountsUntil}
use Rattle.coordinator.specs.declared.driver.Driver.{Driver}
use Rattle.coordinator.specs.declared.drive_end.DriveEnd.{DriveEnd}
use Rattle.coordinator.specs.declared.transact_end.TransactEnd.{TransactEnd}
use Rattle.coordinator.specs.Driving.{Added, AllDrive, sent_done, FoundGone}
use Rattle.coordinator.specs.Drives.{is_none, is_gone_end, IsCancelled, LeavesNoneDecided, IsEnd, Drives}

module _ {V F : Type 0} where
  -- the gate stopped the call, or no unit was left for it
  abbrev pub is_cut_off : TransactEnd V F → Bool
  is_cut_off TransactEnd.Stopped = true
  is_cut_off TransactEnd.Spent = true
  is_cut_off _ = false

  -- the end of a transaction that was driven to this end; none where its number is gone
  abbrev pub ended_by : DriveEnd V F → Option (TransactEnd V F)
  ended_by DriveEnd.Committed = Some TransactEnd.Committed
  ended_by (DriveEnd.Cancelled reasons) = Some (TransactEnd.Cancelled reasons)
  ended_by (DriveEnd.NoTable place) = Some (TransactEnd.NoTable place)
  ended_by DriveEnd.Gone = None
  ended_by DriveEnd.Stopped = Some TransactEnd.Stopped
  ended_by DriveEnd.Spent = Some TransactEnd.Spent
  ended_by DriveEnd.NoMemory = Some TransactEnd.NoMemory

  -- the end where a Begin was not answered
  abbrev pub unanswered : StepError → TransactEnd V F
  unanswered StepError.Spent = TransactEnd.Spent
  unanswered StepError.NoMemory = TransactEnd.NoMemory

  -- the transaction is done
  abbrev pub is_over : DriveEnd V F → Bool
  is_over DriveEnd.Committed = true
  is_over (DriveEnd.Cancelled reasons) = true
  is_over (DriveEnd.NoTable place) = true
  is_over _ = false

-- the entry is a Begin that drew a number
abbrev pub draws_some : {K V A F D Q B : Type 0} → Message K V A F D Q → Answer K V A F B → Bool
draws_some (Message.Begin token actions) (Answer.Begun n stamp) = true
draws_some _ _ = false

module _ {K V A F B : Type 0} where
  -- an answer to a Begin
  abbrev pub answers_begin : Answer K V A F B → Bool
  answers_begin (Answer.Begun n stamp) = true
  answers_begin (Answer.Running n) = true
  answers_begin (Answer.Repeat n) = true
  answers_begin (Answer.Mismatch n) = true
  answers_begin Answer.Stale = true
  answers_begin _ = false

  -- the answer to a Begin names this number as that of the transaction
  abbrev pub names : ℕ → Answer K V A F B → Bool
  names n (Answer.Begun m stamp) = nat_eq m n
  names n (Answer.Running m) = nat_eq m n
  names n (Answer.Repeat m) = nat_eq m n
  names n _ = false

-- the driver has all that was begun, and was told nothing yet
pub record StartsWith {A V F : Type 0} (n : ℕ) (stamp : Stamp) (actions : List A) (d : Driver A V F) : Type 0 where
  pub number : d.number ≡ n
  pub its_stamp : d.stamp ≡ stamp
  pub its_actions : d.actions.items ≡ actions
  pub course : IsToldSo d.course (told_nothing (length actions))
  pub found : d.found ≡ []
  pub table : d.no_table ≡ None
  pub reasons : d.reasons ≡ None
  pub fate : d.fate ≡ Fate.Undecided

module _ {K V A F C D Q B : Type 0} (S : Service K V A F C D Q B) where
  -- these can be the actions of one transaction: 1 to 100 of them, on items that differ
  abbrev pub AreWritable : List A → Type 0
  AreWritable actions = (1 ≤ length actions) × (length actions ≤ 100) × (are_apart S.core actions ≡ true)

  -- a Begin of the pass drew the number, which the pass has not had forgotten
  abbrev pub IsOwn : ℕ → ℕ → History S → Type 0
  IsOwn pass n es =
      (list_any (is_own_begin pass n) es ≡ true) × (list_any (λ e. nat_eq e.pass pass && forgets n e.message e.answer) es ≡ false)

  -- the pass drew the number, with this stamp and these actions
  pub record IsDrawn (p : PassView (Event S)) (n : ℕ) (stamp : Stamp) (actions : List A) : Type 0 where
    pub begun : KnowsBegun S (reverse p.front) n stamp actions
    pub knows : Knows S (reverse p.front) n (told_nothing (length actions))
    pub own : IsOwn p.number n (reverse p.front)

  -- from p to q the number's record was forgotten; or no unit was left for that, and it stays
  abbrev pub Forgets : PassView (Event S) → ℕ → PassView (Event S) → Type 0
  Forgets p n q =
      ((cell : Option ℕ) × Counts S p (event_of p cell (Message.Forget n) Answer.Forgotten ∷ []) 0 q) ⊎ ((q ≡ p) × (p.used ≡ most_units))

  -- so, where it is done; else nothing more was asked
  abbrev pub ForgetsDone : DriveEnd V F → PassView (Event S) → ℕ → PassView (Event S) → Type 0
  ForgetsDone DriveEnd.Committed p n q = Forgets p n q
  ForgetsDone (DriveEnd.Cancelled reasons) p n q = Forgets p n q
  ForgetsDone (DriveEnd.NoTable place) p n q = Forgets p n q
  ForgetsDone _ p n q = q ≡ p

  -- from p to q a number that the pass drew was driven to this end, which is not that it is gone, and where it is done its record was
  -- forgotten
  pub record RunsDrawn (n : ℕ) (stamp : Stamp) (actions : List A) (p : PassView (Event S)) (driven : DriveEnd V F) (q : PassView (Event S)) : Type 0 where
    pub own : List (Event S)
    pub middle : PassView (Event S)
    pub added : Added S 1 p own middle
    pub exact : driven ≢ DriveEnd.NoMemory → middle.used ≡ p.used + length own
    pub each : AllDrive S n own
    pub few : length own ≤ 2 * length actions + 3
    pub is : IsEnd S q n own driven
    pub there : is_gone_end driven ≡ false
    pub begun : KnowsBegun S (reverse q.front) n stamp actions
    pub forgets : ForgetsDone driven middle n q

  -- what came of a Begin of these actions that was answered so
  abbrev pub Follows : List A → Reply S → PassView (Event S) → Option (TransactEnd V F) → PassView (Event S) → Type 0
  Follows actions (Answer.Begun n stamp) p end q = (driven : DriveEnd V F) × RunsDrawn n stamp actions p driven q × (end ≡ ended_by driven)
  Follows actions (Answer.Running n) p end q = (driven : DriveEnd V F) × Drives S n p q driven × (end ≡ ended_by driven)
  Follows actions (Answer.Repeat n) p end q = (q ≡ p) × (end ≡ Some TransactEnd.Committed)
  Follows actions (Answer.Mismatch n) p end q = (q ≡ p) × (end ≡ Some (TransactEnd.Mismatch n))
  Follows actions Answer.Stale p end q = (q ≡ p) × (end ≡ Some TransactEnd.Stale)
  Follows actions _ p end q = ⊥

  -- the number was begun with the same parameters as these actions have
  abbrev pub IsAlike : History S → List A → ℕ → Type 0
  IsAlike es actions n = S.same_actions (begun_actions (effects es) n) actions ≡ true

  module _ (token : Option (List ℕ)) (actions : List A) where
    -- a Begin with this token and these actions was answered, and this came of it
    pub record Answered (p : PassView (Event S)) (end : Option (TransactEnd V F)) (q : PassView (Event S)) : Type 0 where
      pub cell : Option ℕ
      pub answer : Reply S
      pub middle : PassView (Event S)
      pub begin : Counts S p (event_of p cell (Message.Begin token actions) answer ∷ []) 0 middle
      pub later : IsLater S (reverse p.front) (event_of p cell (Message.Begin token actions) answer) (reverse middle.front)
      pub follows : Follows actions answer middle end q

    -- such a Begin, and what came of it: the end, or none where the number that it named as running was found gone
    abbrev pub Turns : PassView (Event S) → Option (TransactEnd V F) → PassView (Event S) → Type 0
    Turns p end q = Answered p end q ⊎ ((why : StepError) × CountsUntil S p [] why q × (end ≡ Some (unanswered why)))

    -- so, under a name that does not unfold
    pub record TakesTurn (p : PassView (Event S)) (end : Option (TransactEnd V F)) (q : PassView (Event S)) : Type 0 where
      pub turn : Turns p end q

    -- so many times it was found gone
    abbrev pub TurnsAgain : PassView (Event S) → ℕ → PassView (Event S) → Type 0
    TurnsAgain p zero q = q ≡ p
    TurnsAgain p (suc k) q = (m : PassView (Event S)) × TurnsAgain p k m × Turns m None q

    -- from p to q the transaction was written, to this end: the Begin was sent until the number that it named was not found gone
    pub record Writes (p : PassView (Event S)) (end : TransactEnd V F) (q : PassView (Event S)) : Type 0 where
      pub again : ℕ
      pub last : PassView (Event S)
      pub before : TurnsAgain p again last
      pub turn : Turns last (Some end) q

    -- an own Begin with this token and these actions was answered so
    abbrev pub WasAnswered : List (Event S) → Reply S → Type 0
    WasAnswered own a = (e : Event S) × Has own e × (e.message ≡ Message.Begin token actions) × (e.answer ≡ a)

    -- one named this number: it drew it, or found it running or completed; and the number was begun with the same parameters
    pub record WasNamed (own : List (Event S)) (es : History S) (n : ℕ) : Type 0 where
      pub answer : Reply S
      pub told : WasAnswered own answer
      pub named : names n answer ≡ true
      pub alike : IsAlike es actions n

    -- the cause of an end, by own entries and what the pass has seen: a number that an own Begin named is committed, and done by an own
    -- Done or before that Begin; it is cancelled with these reasons, and done; an own Begin was answered so; no unit is left
    abbrev pub EndsBy : List (Event S) → PassView (Event S) → TransactEnd V F → Type 0
    EndsBy own q TransactEnd.Committed =
        (n : ℕ) × WasNamed own (reverse q.front) n × Had (commits n) (reverse q.front)
        × ((sent_done S n own ≡ true) ⊎ Had (finishes n) (reverse q.front))
    EndsBy own q (TransactEnd.Cancelled reasons) =
        (n : ℕ) × WasNamed own (reverse q.front) n × IsCancelled S (reverse q.front) n own reasons × (list_all is_none reasons ≡ false)
    EndsBy own q (TransactEnd.NoTable place) =
        (n : ℕ) × WasNamed own (reverse q.front) n × (reasons : List (Reason V F)) × IsCancelled S (reverse q.front) n own reasons
        × (list_all is_none reasons ≡ true) × IfSome place (FoundGone S (reverse q.front) n own)
    EndsBy own q (TransactEnd.Mismatch n) = WasAnswered own (Answer.Mismatch n)
    EndsBy own q TransactEnd.Stale = WasAnswered own Answer.Stale
    EndsBy own q TransactEnd.Twice = own ≡ []
    EndsBy own q TransactEnd.Stopped = Unit {0}
    EndsBy own q TransactEnd.Spent = q.used ≡ most_units
    EndsBy own q TransactEnd.NoMemory = Unit {0}

    -- the message is a Begin with this token and these actions, or it drives a transaction on, or has it forgotten
    abbrev pub IsOfWrite : Asked S → Type 0
    IsOfWrite (Message.Begin t xs) = (t ≡ token) × (xs ≡ actions)
    IsOfWrite (Message.Prepare n stamp action) = Unit {0}
    IsOfWrite (Message.Decide n commit reasons) = Unit {0}
    IsOfWrite (Message.Apply n key) = Unit {0}
    IsOfWrite (Message.Release n key) = Unit {0}
    IsOfWrite (Message.Done n) = Unit {0}
    IsOfWrite (Message.Forget n) = Unit {0}
    IsOfWrite (Message.Recall n) = Unit {0}
    IsOfWrite _ = ⊥

    -- from p to q the pass added these own entries and no other, for one unit each; where memory was refused one unit more may be used;
    -- each of them belongs to the writing, the end has its cause, none is left between its decision and its end unless the call was cut
    -- off, and one at most drew a number
    pub record AddsWriting (p : PassView (Event S)) (end : TransactEnd V F) (q : PassView (Event S)) : Type 0 where
      pub own : List (Event S)
      pub added : Added S 1 p own q
      pub exact : end ≢ TransactEnd.NoMemory → q.used ≡ p.used + length own
      pub each : AllByRecursion (λ e. IsOfWrite e.message) own
      pub cause : EndsBy own q end
      pub settled : is_cut_off end ≡ false → LeavesNoneDecided S own
      pub once : length (filter (λ e. draws_some e.message e.answer) own) ≤ 1
