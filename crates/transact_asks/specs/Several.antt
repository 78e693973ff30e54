-- What calls of several messages add to the one history, and how they end. Each is a record, so that no goal above shows the
-- service.
use Rattle.std.specs.Prelude.{◌≡◌, ◌⊎◌, ℕ, true, false, List, Option}
use Rattle.attr_value.specs.Tree.{Attributes}
use Rattle.update_eval.specs.declared.fault.EvalFault.{EvalFault}
use Rattle.turnstile.specs.Passes.{PassView}
use Rattle.txn_core.specs.Replay.{are_apart}
use Rattle.coordinator.specs.declared.transact_end.TransactEnd.{TransactEnd as EndOf}
use Rattle.coordinator.specs.declared.transact_end.TransactEnd.TheVariants.{Twice, NoMemory}
use Rattle.coordinator.specs.Writes.{AddsWriting, Writes}
use Rattle.txn_reader.specs.declared.read_end.ReadEnd.{ReadEnd}
use Rattle.txn_reader.specs.Reads.{Ends, IsOfOnePoint}
use Rattle.cell_model.specs.declared.key.CellKey.{CellKey}
use Rattle.cell_model.specs.Actions.{ItemAction}
use Rattle.cell_model.specs.Service.{service}
use Rattle.table_history.specs.Entries.{TableEvent}

abbrev pub WritesEnd : Type 0
WritesEnd = EndOf Attributes EvalFault

abbrev pub ItemsEnd : Type 0
ItemsEnd = ReadEnd Attributes EvalFault

module _ (n : ℕ) (p : PassView TableEvent) where
  -- from p to q a transaction of these actions with this token was written, to this end: its own entries with the end's cause; by
  -- which Begins, where no two actions are on one item; and where two are, nothing was sent
  pub record WritesAll (token : Option (List ℕ)) (actions : List ItemAction) (end : WritesEnd) (q : PassView TableEvent) : Type 0 where
    pub adds : AddsWriting (service n) token actions p end q
    pub turns : are_apart (service n).core actions ≡ true → Writes (service n) token actions p end q
    pub twice : are_apart (service n).core actions ≡ false → (q ≡ p) × ((end ≡ Twice) ⊎ (end ≡ NoMemory))

  -- from p to q the items of these keys were read in two rounds, to this end: its own entries; and items that are told are the
  -- tables' at a point between the rounds
  pub record ReadsAll (keys : List CellKey) (end : ItemsEnd) (q : PassView TableEvent) : Type 0 where
    pub adds : Ends (service n) p keys end q
    pub point : IsOfOnePoint (service n) p keys end q
