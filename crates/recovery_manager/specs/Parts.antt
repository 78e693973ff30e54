-- The parts of a sweep: drives of several transactions, and Releases of several items.
use Rattle.std.specs.Prelude.{◌≡◌, ℕ, ◌+◌, ◌*◌, ◌≤◌, Bool, true, false, List, [], ◌∷◌, length, map, reverse, Option}
use Rattle.std.specs.List.{AllByRecursion, list_any, sum_by}
use Rattle.turnstile.specs.Passes.{PassView, most_units}
use Rattle.txn_core.specs.declared.message.Message.{Message}
use Rattle.txn_core.specs.declared.answer.HeldItem.{HeldItem}
use Rattle.txn_core.specs.Answers.{is_holder}
use Rattle.txn_core.specs.History.{effects}
use Rattle.txn_core.specs.Legal.{state, holder_in}
use Rattle.txn_core.specs.Serial.{begun_actions}
use Rattle.txn_core.specs.Service.{Service, Reply, Event, History}
use Rattle.cluster.specs.declared.step.StepError.{StepError}
use Rattle.cluster.specs.Events.{event_of}
use Rattle.cluster.specs.Counts.{Counts, CountsUntil}
use Rattle.coordinator.specs.Driving.{is_driving, Added}
use Rattle.coordinator.specs.Drives.{LeavesNoneDecided}
use Rattle.recovery_manager.specs.declared.sweep_end.SweepEnd.{SweepEnd}
use Rattle.recovery_manager.specs.Ends.{IsDone, IsForgotten, lets_go}

module _ {K V A F C D Q B : Type 0} (S : Service K V A F C D Q B) where
  -- the entry is a message that drives one of these transactions: no Write, no Begin and no command is
  abbrev pub is_on : List ℕ → Event S → Bool
  is_on numbers e = list_any (λ n. is_driving n e.message) numbers

  abbrev pub AllOn : List ℕ → List (Event S) → Type 0
  AllOn numbers own = AllByRecursion (λ e. is_on numbers e ≡ true) own

  -- the most entries that the drives of these transactions take
  abbrev pub most_drives : History S → List ℕ → ℕ
  most_drives es numbers = sum_by (λ n. 2 * length (begun_actions (effects es) n) + 4) numbers

  -- from p to q some of these transactions were driven on, and nothing else was done
  pub record DrivesSome (numbers : List ℕ) (p q : PassView (Event S)) : Type 0 where
    pub own : List (Event S)
    pub added : Added S (length numbers) p own q
    pub each : AllOn numbers own
    pub few : length own ≤ most_drives (reverse p.front) numbers

  -- each of them was driven to its end, and these are the ones that are gone
  pub record DrivesAll (gone : ℕ → Bool) (numbers : List ℕ) (p q : PassView (Event S)) : Type 0 where
    pub drives : DrivesSome numbers p q
    pub done : AllByRecursion (λ n. gone n ≡ false → IsDone S (reverse q.front) drives.own n) numbers
    pub forgotten : (n : ℕ) → gone n ≡ true → IsForgotten S (reverse q.front) drives.own n

  -- a drive did not come to its end, or memory was refused, which leaves none between its decision and its end
  pub record DrivesPartly (numbers : List ℕ) (p : PassView (Event S)) (why : SweepEnd) (q : PassView (Event S)) : Type 0 where
    pub drives : DrivesSome numbers p q
    pub spent : why ≡ SweepEnd.Spent → q.used ≡ most_units
    pub memory : why ≡ SweepEnd.NoMemory → LeavesNoneDecided S drives.own

  -- a Release of the number on the item was answered, and then the number does not hold it
  pub record Releases (n : ℕ) (key : K) (p q : PassView (Event S)) : Type 0 where
    pub cell : Option ℕ
    pub answer : Reply S
    pub counts : Counts S p (event_of p cell (Message.Release n key) answer ∷ []) 0 q
    pub free : is_holder (holder_in S (state S (reverse q.front)) key) n ≡ false

  -- a Release was sent for each of these items whose transaction is gone, and nothing else
  pub record ReleasesGone (gone : ℕ → Bool) (items : List (HeldItem K)) (p q : PassView (Event S)) : Type 0 where
    pub own : List (Event S)
    pub counts : Counts S p own 0 q
    pub each : AllOn (map (λ item. item.number) items) own
    pub few : length own ≤ length items
    pub sent : AllByRecursion (λ item. gone item.number ≡ true → lets_go S item.number item.key own ≡ true) items

  -- for some of them, and then no unit was left
  pub record ReleasesPartly (items : List (HeldItem K)) (p : PassView (Event S)) (why : StepError) (q : PassView (Event S)) : Type 0 where
    pub own : List (Event S)
    pub counts : CountsUntil S p own why q
    pub each : AllOn (map (λ item. item.number) items) own
    pub few : length own ≤ length items
