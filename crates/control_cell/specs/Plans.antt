-- What becomes of a command.
use Rattle.std.specs.Prelude.{◌≡◌, ℕ, ◌∷◌, None, Some}
use Rattle.txn_core.specs.declared.message.Message.{Message}
use Rattle.txn_core.specs.declared.answer.Answer.{Answer}
use Rattle.txn_core.specs.declared.ruling.Ruling.TheVariants.{Carries, Refuses}
use Rattle.txn_core.specs.Service.{Service, Reply, Event, History}
use Rattle.txn_core.specs.State.{State}
use Rattle.txn_core.specs.Legal.{state, IsAnswer, IsClear}
use Rattle.control_cell.specs.declared.cell.ControlCell.{ControlCell}
use Rattle.control_cell.specs.declared.commands.CatalogPlan.{CatalogPlan}
use Rattle.control_cell.specs.declared.commands.CatalogPlan.TheVariants.{Refused, Denied, Carried}
use Rattle.control_cell.specs.Holding.{Holds, IsEntry}

module _ {K V A F C D Q B : Type 0} (S : Service K V A F C D Q B) where
  -- the plan is what the catalog says of the command
  abbrev pub IsPlan : C → D → ℕ → CatalogPlan B C → Type 0
  IsPlan c d moment (Refused told) = S.refuses d c ≡ Some told
  IsPlan c d moment (Denied told) = (S.refuses d c ≡ None) × (S.rules d moment c ≡ Refuses told)
  IsPlan c d moment (Carried told next) =
      (S.refuses d c ≡ None) × ((S.rules d moment c ≡ Carries told) × (next ≡ S.core.change d moment c))

  -- the answer of a command that goes as planned
  abbrev pub planned : CatalogPlan B C → Reply S
  planned (Refused told) = Answer.Refused told
  planned (Denied told) = Answer.Refused told
  planned (Carried told next) = Answer.Changed told

  -- it goes so: of a name that is refused always, else where no item of its table is held
  abbrev pub GoesSo : State K V A C → D → CatalogPlan B C → Type 0
  GoesSo w d (Refused told) = Unit {0}
  GoesSo w d _ = IsClear S w d

module _ {R K V A F C D Q B : Type 0} (S : Service K V A F C D Q B) where
  -- the command is answered as planned, where it goes so
  abbrev pub PlanAnswers : ControlCell R K V A F C D Q B → D → ℕ → CatalogPlan B C → Type 0
  PlanAnswers cell d moment plan =
      (es : History S) → Holds S es cell → GoesSo S (state S es) d plan → IsAnswer S es moment (Message.Command d) (planned S plan)

  -- a catalog that a command makes of the cell's takes the cell to what a history leaves with the entry that carries it out
  abbrev pub TakesPlan : ControlCell R K V A F C D Q B → ControlCell R K V A F C D Q B → ℕ → C → Type 0
  TakesPlan old new moment next =
      (es : History S) (e : Event S) (d : D) (told : B) → Holds S es old → next ≡ S.core.change d moment old.catalog
      → IsEntry S moment (Message.Command d) (Answer.Changed told) e → Holds S (e ∷ es) new
