-- What the cells list of transactions that are not ended.
use Rattle.std.specs.Prelude.{◌≡◌, ◌↔◌, ℕ, ◌+◌, ◌≤◌, List, [], ◌∷◌, ◌++◌, length, map, reverse, Some, Contains}
use Rattle.std.specs.List.{AllByRecursion}
use Rattle.std.specs.List.Sorted.{IsStrictlyIncreasing}
use Rattle.turnstile.specs.Passes.{PassView}
use Rattle.txn_core.specs.declared.message.Message.{Message}
use Rattle.txn_core.specs.declared.answer.Answer.{Answer}
use Rattle.txn_core.specs.declared.answer.HeldItem.{HeldItem}
use Rattle.txn_core.specs.History.{Had, begins}
use Rattle.txn_core.specs.Service.{Service, Event, History}
use Rattle.cluster.specs.declared.step.StepError.{StepError}
use Rattle.cluster.specs.Events.{event_of}
use Rattle.cluster.specs.Counts.{Counts, CountsUntil}

-- what was listed: the items that transactions hold, partition by partition, and the numbers that are begun and not Done
pub record Listing (K : Type 0) : Type 0 where
  pub held : List (List (HeldItem K))
  pub unfinished : List ℕ

module _ {K : Type 0} where
  -- the items of all partitions
  abbrev pub all_items : List (List (HeldItem K)) → List (HeldItem K)
  all_items [] = []
  all_items (items ∷ held) = items ++ all_items held

  -- the numbers that are listed, some of them more than once
  abbrev pub numbers_in : List ℕ → List (HeldItem K) → List ℕ
  numbers_in unfinished items = unfinished ++ map (λ item. item.number) items

-- these are the numbers of that list, each once, ascending
pub record AreTheNumbers (listed numbers : List ℕ) : Type 0 where
  pub rises : IsStrictlyIncreasing numbers
  pub same : (n : ℕ) → Contains numbers n ↔ Contains listed n

module _ {K V A F C D Q B : Type 0} (S : Service K V A F C D Q B) where
  -- what a pass counts where a partition lists its held items; where each does, from this one on; and where the control cell lists
  -- the numbers
  abbrev pub lists_items : PassView (Event S) → ℕ → List (HeldItem K) → Event S
  lists_items p cell items = event_of p (Some cell) (Message.Pendings cell) (Answer.PendingList items)

  abbrev pub lists_held : PassView (Event S) → ℕ → List (List (HeldItem K)) → List (Event S)
  lists_held p cell [] = []
  lists_held p cell (items ∷ held) = lists_items p cell items ∷ lists_held p (cell + 1) held

  abbrev pub lists_numbers : PassView (Event S) → List ℕ → Event S
  lists_numbers p numbers = event_of p (Some S.control) Message.Unfinished (Answer.Numbers numbers)

  -- each cell was asked once, the partitions in order and then the control cell
  abbrev pub lists : PassView (Event S) → Listing K → List (Event S)
  lists p l = lists_held p 0 l.held ++ lists_numbers p l.unfinished ∷ []

  abbrev pub AllBegun : History S → List ℕ → Type 0
  AllBegun es numbers = AllByRecursion (λ n. Had (begins n) es) numbers

  -- from p to q a partition listed these items, of transactions that were begun
  pub record ListsItems (cell : ℕ) (p : PassView (Event S)) (items : List (HeldItem K)) (q : PassView (Event S)) : Type 0 where
    pub counts : Counts S p (lists_items p cell items ∷ []) 0 q
    pub begun : AllBegun (reverse q.front) (map (λ item. item.number) items)

  -- the first n partitions listed these in all
  pub record ListsHeld (n : ℕ) (p : PassView (Event S)) (items : List (HeldItem K)) (q : PassView (Event S)) : Type 0 where
    pub held : List (List (HeldItem K))
    pub many : length held ≡ n
    pub items_are : items ≡ all_items held
    pub counts : Counts S p (lists_held p 0 held) 0 q
    pub begun : AllBegun (reverse q.front) (map (λ item. item.number) items)

  -- the control cell listed these numbers
  pub record ListsNumbers (p : PassView (Event S)) (numbers : List ℕ) (q : PassView (Event S)) : Type 0 where
    pub counts : Counts S p (lists_numbers p numbers ∷ []) 0 q
    pub begun : AllBegun (reverse q.front) numbers

  -- some of the first n partitions listed their items, and then the call ended by an error
  pub record ListsPartly (n : ℕ) (p : PassView (Event S)) (why : StepError) (q : PassView (Event S)) : Type 0 where
    pub held : List (List (HeldItem K))
    pub few : length held ≤ n
    pub counts : CountsUntil S p (lists_held p 0 held) why q
