-- When a transaction that was driven is at its end, and what lets an item go.
use Rattle.std.specs.Prelude.{◌≡◌, ◌⊎◌, ℕ, Bool, true, false, List, Result, Ok, Err}
use Rattle.std.specs.List.{list_any}
use Rattle.txn_core.specs.History.{Had, commits, cancels, forgets}
use Rattle.txn_core.specs.Legal.{releases}
use Rattle.txn_core.specs.Service.{Service, Event, History}
use Rattle.cluster.specs.declared.step.StepError.{StepError}
use Rattle.coordinator.specs.declared.drive_end.DriveEnd.{DriveEnd}
use Rattle.coordinator.specs.Driving.{found_none, sent_done}
use Rattle.recovery_manager.specs.declared.sweep_end.SweepEnd.{SweepEnd}

-- why a sweep leaves off where a step was not taken
abbrev pub left_off : StepError → SweepEnd
left_off StepError.Spent = SweepEnd.Spent
left_off StepError.NoMemory = SweepEnd.NoMemory

-- whether the record of a transaction that came to its end is gone; else why a sweep leaves off
abbrev pub found_gone : {V F : Type 0} → DriveEnd V F → Result Bool SweepEnd
found_gone DriveEnd.Committed = Ok false
found_gone (DriveEnd.Cancelled reasons) = Ok false
found_gone (DriveEnd.NoTable place) = Ok false
found_gone DriveEnd.Gone = Ok true
found_gone DriveEnd.Stopped = Err SweepEnd.Stopped
found_gone DriveEnd.Spent = Err SweepEnd.Spent
found_gone DriveEnd.NoMemory = Err SweepEnd.NoMemory

module _ {K V A F C D Q B : Type 0} (S : Service K V A F C D Q B) where
  -- the number is decided, and one of these entries is its Done
  pub record IsDone (es : History S) (own : List (Event S)) (n : ℕ) : Type 0 where
    pub decided : Had (commits n) es ⊎ Had (cancels n) es
    pub done : sent_done S n own ≡ true

  -- its record was forgotten, and one of these entries found none
  pub record IsForgotten (es : History S) (own : List (Event S)) (n : ℕ) : Type 0 where
    pub forgotten : Had (forgets n) es
    pub found : found_none S n own ≡ true

  -- one of these entries is a Release of the number on the item
  abbrev pub lets_go : ℕ → K → List (Event S) → Bool
  lets_go n key own = list_any (λ e. releases S n key e.message e.answer) own
