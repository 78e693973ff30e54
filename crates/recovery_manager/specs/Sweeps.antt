-- What a sweep adds to the history, and what it leaves.
use Rattle.std.specs.Prelude.{◌≡◌, ◌⊎◌, ℕ, ◌+◌, ◌≤◌, true, List, [], ◌++◌, length, reverse, Contains}
use Rattle.std.specs.List.{AllByRecursion}
use Rattle.std.specs.List.Sorted.{IsStrictlyIncreasing}
use Rattle.turnstile.specs.Passes.{PassView, most_units}
use Rattle.txn_core.specs.declared.answer.HeldItem.{HeldItem}
use Rattle.txn_core.specs.Service.{Service, Event, History}
use Rattle.coordinator.specs.Driving.{Added}
use Rattle.coordinator.specs.Drives.{LeavesNoneDecided}
use Rattle.recovery_manager.specs.declared.sweep_end.SweepEnd.{SweepEnd}
use Rattle.recovery_manager.specs.Ends.{IsDone, IsForgotten, lets_go}
use Rattle.recovery_manager.specs.Lists.{Listing, all_items, numbers_in, AreTheNumbers, lists_held, lists}
use Rattle.recovery_manager.specs.Parts.{AllOn, most_drives}

module _ {K V A F C D Q B : Type 0} (S : Service K V A F C D Q B) where
  -- the transaction came to its end: it is decided and Done, or its record is forgotten
  abbrev pub IsEnded : History S → List (Event S) → ℕ → Type 0
  IsEnded es own n = IsDone S es own n ⊎ IsForgotten S es own n

  -- and a Release on the item was sent where its record is forgotten
  abbrev pub IsLetGo : History S → List (Event S) → HeldItem K → Type 0
  IsLetGo es own item =
      IsDone S es own item.number
      ⊎ (IsForgotten S es own item.number × (lets_go S item.number item.key own ≡ true))

  -- from p to q each of the n partitions and the control cell was asked once what is not ended, and each of the numbers that are
  -- listed, so many of them, was driven to its end
  pub record Sweeps (n : ℕ) (p : PassView (Event S)) (count : ℕ) (q : PassView (Event S)) : Type 0 where
    pub listing : Listing K
    pub all_asked : length listing.held ≡ n
    pub numbers : List ℕ
    pub they_are : AreTheNumbers (numbers_in listing.unfinished (all_items listing.held)) numbers
    pub counted : length numbers ≡ count
    -- the entries behind the lists: those of the drives, and a Release for each item that a forgotten transaction was listed with
    pub own : List (Event S)
    pub added : Added S count p (lists S p listing ++ own) q
    pub each : AllOn S numbers own
    pub few : length own ≤ most_drives S (reverse q.front) numbers + length (all_items listing.held)
    pub ended : AllByRecursion (IsEnded (reverse q.front) own) numbers
    pub let_go : AllByRecursion (IsLetGo (reverse q.front) own) (all_items listing.held)

  -- these entries are lists: of some of the n partitions alone, or of all cells
  abbrev pub AreLists : ℕ → PassView (Event S) → Listing K → List (Event S) → Type 0
  AreLists n p l told =
      ((told ≡ lists_held S p 0 l.held) × (length l.held ≤ n) × (l.unfinished ≡ []))
      ⊎ ((told ≡ lists S p l) × (length l.held ≡ n))

  -- a sweep left off: some of these numbers, which are listed, were driven on
  pub record SweepsPartly (n : ℕ) (p : PassView (Event S)) (why : SweepEnd) (q : PassView (Event S)) : Type 0 where
    pub listing : Listing K
    pub told : List (Event S)
    pub told_is : AreLists n p listing told
    pub numbers : List ℕ
    pub rises : IsStrictlyIncreasing numbers
    pub listed : (m : ℕ) → Contains numbers m → Contains (numbers_in listing.unfinished (all_items listing.held)) m
    pub own : List (Event S)
    pub added : Added S (length numbers + 1) p (told ++ own) q
    pub each : AllOn S numbers own
    pub few : length own ≤ most_drives S (reverse q.front) numbers + length (all_items listing.held)
    pub spent : why ≡ SweepEnd.Spent → q.used ≡ most_units
    pub memory : why ≡ SweepEnd.NoMemory → LeavesNoneDecided S own
