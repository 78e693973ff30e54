-- What a control cell holds: what the entries of a history leave of it.
use Rattle.std.specs.Prelude.{◌≡◌, ◌↔◌, ℕ, Bool, true, false, ◌∷◌}
use Rattle.txn_core.specs.declared.message.Message.{Message}
use Rattle.txn_core.specs.Service.{Service, Asked, Reply, Event, History}
use Rattle.txn_core.specs.History.{is_changed, reasons_of, kept}
use Rattle.txn_core.specs.Legal.{state, IsAnswer, Allowed, IsLegal}
use Rattle.txn_core.specs.Cells.{of_cell}
use Rattle.txn_ledger.specs.Unchanged as ledger
use Rattle.control_cell.specs.declared.cell.ControlCell.{ControlCell}
use Rattle.control_cell.specs.Keeping.{Keeps}

module _ {K V A F C D Q B : Type 0} (S : Service K V A F C D Q B) where
  -- an entry of this message and answer at this moment
  pub record IsEntry (moment : ℕ) (m : Asked S) (a : Reply S) (e : Event S) : Type 0 where
    pub moment_is : e.moment ≡ moment
    pub message_is : e.message ≡ m
    pub answer_is : e.answer ≡ a

  -- the entry may change what the control cell holds
  abbrev pub is_of_control : Asked S → Reply S → Bool
  is_of_control (Message.Begin token actions) a = true
  is_of_control (Message.Decide number commit reasons) a = true
  is_of_control (Message.Done number) a = true
  is_of_control (Message.Forget number) a = true
  is_of_control (Message.Command command) a = is_changed a
  is_of_control _ a = false

  -- the message goes to the control cell alone
  abbrev pub goes_to_control : Asked S → Bool
  goes_to_control (Message.Begin token actions) = true
  goes_to_control (Message.Decide number commit reasons) = true
  goes_to_control (Message.Done number) = true
  goes_to_control (Message.Forget number) = true
  goes_to_control (Message.FateOf number) = true
  goes_to_control (Message.Recall number) = true
  goes_to_control Message.Unfinished = true
  goes_to_control (Message.Ask question) = true
  goes_to_control _ = false

module _ {R K V A F C D Q B : Type 0} (S : Service K V A F C D Q B) where
  -- the cell holds the catalog, the transactions, the reasons and the tokens that the history leaves
  pub record Holds (es : History S) (cell : ControlCell R K V A F C D Q B) : Type 0 where
    pub catalog_is : cell.catalog ≡ (state S es).catalog
    pub keeps : Keeps (state S es).ledger (reasons_of es) (kept es) cell.ledger

  -- the cell answers the message so at this moment
  abbrev pub Answers : ControlCell R K V A F C D Q B → ℕ → Asked S → Reply S → Type 0
  Answers cell moment m a = (es : History S) → Holds es cell → IsAnswer S es moment m a

  -- a cell that held what a history leaves holds what it leaves with this entry
  abbrev pub Takes : ControlCell R K V A F C D Q B → ControlCell R K V A F C D Q B → ℕ → Asked S → Reply S → Type 0
  Takes old new moment m a = (es : History S) (e : Event S) → Holds es old → IsEntry S moment m a e → Holds (e ∷ es) new

  -- the same where the history allows its pass to send the message
  abbrev pub TakesAllowed : ControlCell R K V A F C D Q B → ControlCell R K V A F C D Q B → ℕ → Asked S → Reply S → Type 0
  TakesAllowed old new moment m a =
      (es : History S) (e : Event S) → Holds es old → Allowed S es e.pass m → IsEntry S moment m a e → Holds (e ∷ es) new

module _ (R : Type 0) {K V A F C D Q B : Type 0} (S : Service K V A F C D Q B) where
  -- each other entry leaves what a cell holds
  abbrev pub OthersLeaveIt : Type 0
  OthersLeaveIt =
      (es : History S) (e : Event S) (cell : ControlCell R K V A F C D Q B) → Holds S es cell → is_of_control S e.message e.answer ≡ false
      → Holds S (e ∷ es) cell

  -- a cell that holds what the control cell's own entries leave holds what the whole legal history does, and the other way round
  abbrev pub OwnEntriesTellIt : Type 0
  OwnEntriesTellIt =
      (es : History S) → IsLegal S es → (cell : ControlCell R K V A F C D Q B) → Holds S (of_cell S.control es) cell ↔ Holds S es cell

module _ {R K V A F C D Q B : Type 0} where
  -- nothing changes in the cell
  pub record Unchanged (s t : ControlCell R K V A F C D Q B) : Type 0 where
    pub catalog_is : t.catalog ≡ s.catalog
    pub ledger_is : ledger.Unchanged s.ledger t.ledger

module _ (R : Type 0) {K V A F C D Q B : Type 0} (S : Service K V A F C D Q B) where
  -- a cell in which nothing changed holds what it held
  abbrev pub UnchangedHolds : Type 0
  UnchangedHolds = (es : History S) (s t : ControlCell R K V A F C D Q B) → Unchanged s t → Holds S es s → Holds S es t
