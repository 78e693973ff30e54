-- The cells apart: each cell has its own entries, and what it holds and answers are what these alone make of it.
use Rattle.std.specs.Prelude.{◌≡◌, ◌⊎◌, ◌↔◌, ℕ, ◌<◌, ◌≤◌, Bool, true, nat_eq, List, ◌∷◌, ◌++◌, Option, None, Some, filter}
use Rattle.txn_core.specs.declared.stamp.Stamp.{Stamp}
use Rattle.txn_core.specs.declared.message.Message.{Message}
use Rattle.txn_core.specs.declared.answer.Answer.{Answer}
use Rattle.txn_core.specs.declared.entry.Entry.{Entry}
use Rattle.txn_core.specs.Service.{Service, Asked, Reply, Event, History}
use Rattle.txn_core.specs.State.{Pending, Spot, State, holder}
use Rattle.txn_core.specs.History.{reasons_of, kept, IsTimely}
use Rattle.index_feed.specs.Feed.{AlikeAt}
use Rattle.txn_core.specs.Indexing.{indexed}
use Rattle.txn_core.specs.Feeding.{feed_after}
use Rattle.txn_core.specs.Legal.{state, IsAnswer, ruling_answer, Allowed, sent_to, IsLegal}

-- what a cell holds of one item: the committed row with its stamp and version, and the pending on it
pub record Item (V : Type 0) : Type 0 where
  pub row : Option V
  pub stamp : Stamp
  pub version : ℕ
  pub pend : Option (Pending V)

abbrev pub item : {V : Type 0} → Spot V → Item V
item s = record { row = s.row; stamp = s.stamp; version = s.version; pend = s.pend }

-- what goes to one cell reaches that cell, and what goes to all cells reaches each
abbrev pub reaches : Option ℕ → ℕ → Bool
reaches None i = true
reaches (Some k) i = nat_eq k i

-- the entries of a cell: those at it, and those over all cells
abbrev pub of_cell : {K V A F D Q B : Type 0} → ℕ → List (Entry K V A F D Q B) → List (Entry K V A F D Q B)
of_cell i es = filter (λ e. reaches e.cell i) es

-- the entries of a pass
abbrev pub of_pass : {K V A F D Q B : Type 0} → ℕ → List (Entry K V A F D Q B) → List (Entry K V A F D Q B)
of_pass p es = filter (λ e. nat_eq e.pass p) es

module _ {K V A F C D Q B : Type 0} (S : Service K V A F C D Q B) where
  -- both histories leave the cell with the same: its items, its floor and numbers, the catalog, its outbox, marks and index
  -- rows; and the control cell with the same transactions, tokens and reasons
  pub record IsAlike (i : ℕ) (es fs : History S) : Type 0 where
    pub items : (q : K) → S.core.cell_of q ≡ i → item ((state S es).spot q) ≡ item ((state S fs).spot q)
    pub numbers : (state S es).cell i ≡ (state S fs).cell i
    pub catalog : (state S es).catalog ≡ (state S fs).catalog
    pub feed : AlikeAt (indexed S.core S.index) i (feed_after S es) (feed_after S fs)
    pub ledger : i ≡ S.control → (state S es).ledger ≡ (state S fs).ledger
    pub tokens : i ≡ S.control → (t : List ℕ) → kept es t ≡ kept fs t
    pub reasons : i ≡ S.control → (n : ℕ) → reasons_of es n ≡ reasons_of fs n

  -- a cell: the control cell, or one in which an item may live
  abbrev pub IsCell : ℕ → Type 0
  IsCell i = (i ≡ S.control) ⊎ ((q : K) × (S.core.cell_of q ≡ i))

  -- both histories leave the cell that is asked with the same, or where all are asked, each cell
  abbrev pub AreAlike : Option ℕ → History S → History S → Type 0
  AreAlike (Some i) es fs = IsAlike i es fs
  AreAlike None es fs = (i : ℕ) → IsCell i → IsAlike i es fs

  -- the cell that is asked has the same entries in both histories, or where all are asked, each cell
  abbrev pub HaveSameEntries : Option ℕ → History S → History S → Type 0
  HaveSameEntries (Some i) es fs = of_cell i es ≡ of_cell i fs
  HaveSameEntries None es fs = (i : ℕ) → IsCell i → of_cell i es ≡ of_cell i fs

  -- the least number of those that hold an item of the command's table in this cell
  pub record IsFirstHolder (w : State K V A C) (d : D) (i n : ℕ) : Type 0 where
    pub item : K
    pub its_cell : S.core.cell_of item ≡ i
    pub concerned : S.concerns d w.catalog item ≡ true
    pub holds : holder (w.spot item).pend ≡ Some n
    pub least :
        (q : K) (m : ℕ) → S.core.cell_of q ≡ i → S.concerns d w.catalog q ≡ true → holder (w.spot q).pend ≡ Some m
        → n ≤ m

  -- no transaction holds an item of the command's table in this cell
  abbrev pub IsClearThere : State K V A C → D → ℕ → Type 0
  IsClearThere w d i = (q : K) → S.core.cell_of q ≡ i → S.concerns d w.catalog q ≡ true → (w.spot q).pend ≡ None

  -- a command's answer by what each cell knows from its own entries: the control cell's refusal; else Held by the first cell
  -- in which an item of its table is held; else what the catalog says
  abbrev pub IsRuledByCells : (ℕ → State K V A C) → D → ℕ → Option B → Reply S → Type 0
  IsRuledByCells own d moment (Some told) a = a ≡ Answer.Refused told
  IsRuledByCells own d moment None a =
      ((n i : ℕ) × (a ≡ Answer.Held n) × IsFirstHolder (own i) d i n × ((j : ℕ) → j < i → IsClearThere (own j) d j))
      ⊎ ((a ≡ ruling_answer S (S.rules d moment (own S.control).catalog)) × ((j : ℕ) → IsClearThere (own j) d j))

  -- a cell's own entries leave it with what the whole history does
  abbrev pub OwnEntriesTell : Type 0
  OwnEntriesTell = (es : History S) → IsLegal S es → (i : ℕ) → IsAlike i (of_cell i es) es

  -- a cell's own entries decide what it answers
  abbrev pub OwnEntriesAnswer : Type 0
  OwnEntriesAnswer =
      (es : History S) → IsLegal S es → (i moment : ℕ) (m : Asked S) (a : Reply S) → sent_to S m ≡ Some i
      → IsAnswer S es moment m a ↔ IsAnswer S (of_cell i es) moment m a

  -- the cells' own entries, each cell's apart, decide what is answered to a command
  abbrev pub CellsAnswer : Type 0
  CellsAnswer =
      (es : History S) → IsLegal S es → (moment : ℕ) (d : D) (a : Reply S)
      → let own : ℕ → State K V A C = λ i. state S (of_cell i es) in
      IsAnswer S es moment (Message.Command d) a
      ↔ IsRuledByCells own d moment (S.refuses d (own S.control).catalog) a

  -- two legal histories, in which the cells that are asked have the same entries, have the same answers
  abbrev pub SameEntriesAnswer : Type 0
  SameEntriesAnswer =
      (es fs : History S) → IsLegal S es → IsLegal S fs → (m : Asked S) → HaveSameEntries (sent_to S m) es fs
      → (moment : ℕ) (a : Reply S) → IsAnswer S es moment m a → IsAnswer S fs moment m a

  -- where a pass has seen all of its own entries and all those of the cells that it asks, the answer and the moment of its
  -- entry fit the whole history as they fit what it has seen
  abbrev pub SeenCellsAreEnough : Type 0
  SeenCellsAreEnough =
      (newer seen : History S) → IsLegal S (newer ++ seen) → (e : Event S)
      → HaveSameEntries (sent_to S e.message) (newer ++ seen) seen
      → of_pass e.pass (newer ++ seen) ≡ of_pass e.pass seen → IsAnswer S seen e.moment e.message e.answer
      → IsTimely seen e.pass e.moment → e.cell ≡ sent_to S e.message → Allowed S (newer ++ seen) e.pass e.message
      → IsLegal S (e ∷ (newer ++ seen))
