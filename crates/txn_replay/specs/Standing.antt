-- For which entries the cells of a replay stand, and what they answer and become.
use Rattle.std.specs.Prelude.{◌≡◌, ◌↔◌, ℕ, ◌<◌, Bool, false, IsTrue, ◌∷◌, List, Option, None, Some, MatchOption, length, reverse, slice_get}
use Rattle.std.specs.declared.cmp.Ord as ord
use Rattle.std.specs.declared.cmp.PartialEq as eq
use Rattle.std.specs.declared.cmp.PartialOrd as partial
use Rattle.txn_core.specs.Service.{Service, Asked, Reply, Event, History}
use Rattle.txn_core.specs.State.{State}
use Rattle.txn_core.specs.Legal.{state, Allowed, IsAnswer, IsLegal, sent_to}
use Rattle.txn_core.specs.Breaks.{IsRight}
use Rattle.txn_core.specs.Cells.{of_cell, IsClearThere, IsFirstHolder}
use Rattle.index_changes.specs.Entries.{LocalEntries}
use Rattle.partition.specs.declared.cell.Partition.{Partition}
use Rattle.partition.specs.Carrying.{IsCarriedOut}
use Rattle.partition.specs.InStep.{IsInStep}
use Rattle.partition.specs.Says.{Stands}
use Rattle.partition.specs.Steps.{is_served}
use Rattle.control_cell.specs.declared.cell.ControlCell.{ControlCell}
use Rattle.control_cell.specs.Holding.{Holds, IsEntry, goes_to_control}
use Rattle.txn_replay.specs.declared.cells.Cells.{Cells}

module _ {K V A F C D Q B : Type 0} (S : Service K V A F C D Q B) where
  -- what the cell's own entries make of the state
  abbrev pub own : History S → ℕ → State K V A C
  own es i = state S (of_cell i es)

  -- the least number, in the first cell that has one, of those that hold an item of the command's table; none, where no cell has
  abbrev pub TellsFirst : (ℕ → State K V A C) → D → Option ℕ → Type 0
  TellsFirst at d None = (j : ℕ) → IsClearThere S (at j) d j
  TellsFirst at d (Some n) = (i : ℕ) × IsFirstHolder S (at i) d i n × ((j : ℕ) → j < i → IsClearThere S (at j) d j)

  -- a message that goes to a partition and that none serves
  pub record IsBeside (m : Asked S) : Type 0 where
    pub to : ℕ
    pub sent : sent_to S m ≡ Some to
    pub below : to < S.control
    pub elsewhere : goes_to_control S m ≡ false
    pub unserved : is_served S.control m ≡ false

  -- of every legal history under this catalog such a message is answered so, where anything is an answer; and nobody may send it
  pub record TellsBeside (c : C) (m : Asked S) (answer : Option (Reply S)) : Type 0 where
    pub tells :
        (es : History S) (moment : ℕ) → IsBeside m → IsLegal S es → c ≡ (state S es).catalog
        → MatchOption answer ((a : Reply S) → IsAnswer S es moment m a → ⊥) (λ a. IsAnswer S es moment m a)
    pub never : (es : History S) (pass : ℕ) → IsBeside m → IsLegal S es → Allowed S es pass m → ⊥

module _
    {K V A F C D Q B N : Type 0} (S : Service K V A F C D Q B) (L : LocalEntries K V C N)
    {O : ord.Ghosts K} {E : eq.Ghosts K} {P : partial.Ghosts K} {X : ord.Ghosts N} {Y : eq.Ghosts N} {Z : partial.Ghosts N} where
  -- the partition is, as the cell i, what these entries make of it, the newest first, and its local entries are in step
  abbrev pub StandsAs : ℕ → Partition K V C N O E P X Y Z → History S → Type 0
  StandsAs i p es = Stands S i p es × IsInStep S L p

  -- each partition stands for its own entries of the history
  pub record EachStands (cells : List (Partition K V C N O E P X Y Z)) (es : History S) : Type 0 where
    pub count : length cells ≡ S.control
    pub each : (i : ℕ) (p : Partition K V C N O E P X Y Z) → slice_get cells i ≡ Some p → StandsAs i p (of_cell i es)

  -- the partition i, which stood for its own entries, stands for them with each entry that carries the command out
  pub record CarriesHere (i : ℕ) (c d : Partition K V C N O E P X Y Z) (command : D) (moment : ℕ) : Type 0 where
    pub carries :
        (es : History S) (e : Event S) → IsCarriedOut S moment command e → IsLegal S (e ∷ es) → StandsAs i c (of_cell i es)
        → StandsAs i d (of_cell i (e ∷ es))

  -- and so each of them does
  pub record EachCarries (old new : List (Partition K V C N O E P X Y Z)) (command : D) (moment : ℕ) : Type 0 where
    pub carries :
        (es : History S) (e : Event S) → IsCarriedOut S moment command e → IsLegal S (e ∷ es) → EachStands old es → EachStands new (e ∷ es)

module _
    {R K V A F C D Q B N : Type 0} (S : Service K V A F C D Q B) (L : LocalEntries K V C N)
    {O : ord.Ghosts K} {E : eq.Ghosts K} {P : partial.Ghosts K} {X : ord.Ghosts N} {Y : eq.Ghosts N} {Z : partial.Ghosts N} where
  -- the cells are what the history leaves of them
  pub record AllStand (cells : Cells (Partition K V C N O E P X Y Z) (ControlCell R K V A F C D Q B) C) (es : History S) : Type 0 where
    pub partitions : EachStands S L cells.partitions.items es
    pub control : Holds S es cells.control
    pub catalog : cells.catalog ≡ (state S es).catalog

  -- cells that stood for a history, which this catalog follows by the command, stand with each entry that carries it out
  pub record CarriesAll
      (old new : Cells (Partition K V C N O E P X Y Z) (ControlCell R K V A F C D Q B) C) (command : D) (moment : ℕ) (next : C)
      : Type 0 where
    pub carries :
        (es : History S) (e : Event S) → next ≡ S.core.change command moment (state S es).catalog → IsCarriedOut S moment command e
        → IsLegal S (e ∷ es) → AllStand old es → AllStand new (e ∷ es)

  -- of every legal history for which the cells stand, the answer is that history's; where there is none, it has none
  pub record Tells
      (cells : Cells (Partition K V C N O E P X Y Z) (ControlCell R K V A F C D Q B) C) (m : Asked S) (moment : ℕ) (answer : Option (Reply S))
      : Type 0 where
    pub tells :
        (es : History S) → IsLegal S es → AllStand cells es
        → MatchOption answer ((a : Reply S) → IsAnswer S es moment m a → ⊥) (λ a. IsAnswer S es moment m a)

  -- and the cells afterwards stand for it with the message's entry, where that may follow
  pub record Leads
      (old new : Cells (Partition K V C N O E P X Y Z) (ControlCell R K V A F C D Q B) C) (m : Asked S) (moment : ℕ)
      (answer : Option (Reply S))
      : Type 0 where
    pub leads :
        (es : History S) (e : Event S) (a : Reply S) → answer ≡ Some a → IsEntry S moment m a e → IsLegal S (e ∷ es) → AllStand old es
        → AllStand new (e ∷ es)

  -- of every legal history for which the cells stand, the entry's answer is right exactly where this is true
  pub record JudgesAnswer (cells : Cells (Partition K V C N O E P X Y Z) (ControlCell R K V A F C D Q B) C) (e : Event S) (right : Bool) : Type 0 where
    pub judges : (es : History S) → IsLegal S es → AllStand cells es → IsTrue right ↔ IsAnswer S es e.moment e.message e.answer

  -- and where it may follow, the cells afterwards stand for it too
  pub record Advances (old new : Cells (Partition K V C N O E P X Y Z) (ControlCell R K V A F C D Q B) C) (e : Event S) : Type 0 where
    pub advances : (es : History S) → IsLegal S (e ∷ es) → AllStand old es → AllStand new (e ∷ es)

  -- so it is where these entries, in order of time, are legal, and the cells stand for them: the entry is right exactly where this is
  -- true
  pub record JudgesEntry
      (cells : Cells (Partition K V C N O E P X Y Z) (ControlCell R K V A F C D Q B) C) (past : History S) (e : Event S) (right : Bool)
      : Type 0 where
    pub judges : IsLegal S (reverse past) → AllStand cells (reverse past) → IsTrue right ↔ IsRight S (reverse past) e

  pub record AdvancesOn
      (old new : Cells (Partition K V C N O E P X Y Z) (ControlCell R K V A F C D Q B) C) (past : History S) (e : Event S) : Type 0 where
    pub advances : IsLegal S (e ∷ reverse past) → AllStand old (reverse past) → AllStand new (e ∷ reverse past)
