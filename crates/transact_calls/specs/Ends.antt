-- What is told by the end of a transaction (API Reference: CancellationReason).
use Rattle.std.specs.Prelude.{◌≡◌, ◌⊎◌, ℕ, Bool, false, List, [], ◌∷◌, map, slice_get, Option, Some}
use Rattle.std.specs.List.{zip}
use Rattle.attr_value.specs.Tree.{Attributes}
use Rattle.update_eval.specs.declared.fault.EvalFault.{EvalFault}
use Rattle.turnstile.specs.Passes.{PassView}
use Rattle.table_request.specs.declared.consumed.Consumed.{Consumed}
use Rattle.table_model.specs.declared.reply.Reply.{Reply}
use Rattle.table_model.specs.declared.reply.Reply.TheVariants.{TransactWritten, Refused}
use Rattle.table_model.specs.declared.refusal.Reason.{Reason}
use Rattle.table_model.specs.declared.refusal.Reason.TheVariants as told
use Rattle.table_model.specs.declared.refusal.Refusal.TheVariants as refusal
use Rattle.table_model.specs.Writes.{shown_if}
use Rattle.txn_core.specs.declared.message.Message.{Message}
use Rattle.txn_core.specs.declared.answer.Answer.{Answer}
use Rattle.txn_core.specs.declared.reason.Reason.{Reason as ReasonOf}
use Rattle.coordinator.specs.declared.transact_end.TransactEnd.{TransactEnd}
use Rattle.cell_model.specs.Actions.{ItemAction}
use Rattle.table_history.specs.Entries.{TableEvent}
use Rattle.cell_asks.specs.Steps.{One}
use Rattle.transact_asks.specs.Several.{WritesEnd}

-- ---- reasons

-- what is told by a reason, with the item or without it
abbrev pub reason_told : Bool → ReasonOf Attributes EvalFault → Reason
reason_told shows ReasonOf.None = told.None
reason_told shows (ReasonOf.ConditionFalse old) = told.ConditionFalse (shown_if shows old)
reason_told shows (ReasonOf.Held number) = told.Held number
reason_told shows (ReasonOf.Late stamp) = told.Late stamp
reason_told shows (ReasonOf.Moved first second) = told.Moved first second
reason_told shows (ReasonOf.Invalid fault) = told.Invalid fault

-- of all actions in order: an item is shown only where that was asked
abbrev pub reasons_told : List ItemAction → List (ReasonOf Attributes EvalFault) → List Reason
reasons_told actions reasons = map (λ both. reason_told both.0.show_old both.1) (zip actions reasons)

-- of all reads in order: no item is shown
abbrev pub read_reasons_told : List (ReasonOf Attributes EvalFault) → List Reason
read_reasons_told reasons = map (λ reason. reason_told false reason) reasons

-- ---- a table that is gone

-- the name is that of the table of the action at the place
pub record IsNameAt (actions : List ItemAction) (place : Option ℕ) (name : List ℕ) : Type 0 where
  pub at : ℕ
  pub place_is : place ≡ Some at
  pub action : ItemAction
  pub there : slice_get actions at ≡ Some action
  pub is : name ≡ action.table

module _ (n : ℕ) where
  -- from p to q the items of these actions were read, one after the other, and their tables are there
  abbrev pub AreThere : PassView TableEvent → List ItemAction → PassView TableEvent → Type 0
  AreThere p [] q = q ≡ p
  AreThere p (action ∷ actions) q =
      (row : Option Attributes) × (mid : PassView TableEvent) × One n p (Message.Get action.key) (Answer.Row row) mid × AreThere mid actions q

  -- the first of these actions whose table an own Get found gone has the table of this name
  abbrev pub FindsGone : PassView TableEvent → List ItemAction → List ℕ → PassView TableEvent → Type 0
  FindsGone p [] name q = ⊥
  FindsGone p (action ∷ actions) name q =
      (One n p (Message.Get action.key) Answer.Stale q × (name ≡ action.table))
      ⊎ ((row : Option Attributes) × (mid : PassView TableEvent) × One n p (Message.Get action.key) (Answer.Row row) mid × FindsGone mid actions name q)

  -- the table that is told to be gone: that of the action at the place, or one that own Gets found
  abbrev pub IsGone : PassView TableEvent → List ItemAction → Option ℕ → List ℕ → PassView TableEvent → Type 0
  IsGone p actions place name q = (IsNameAt actions place name × (q ≡ p)) ⊎ FindsGone p actions name q

  -- ---- the reply by the end

  abbrev pub IsToldEnd : PassView TableEvent → List ItemAction → Option (List Consumed) → WritesEnd → Reply → PassView TableEvent → Type 0
  IsToldEnd p actions consumed TransactEnd.Committed reply q = (q ≡ p) × (reply ≡ TransactWritten consumed)
  IsToldEnd p actions consumed (TransactEnd.Cancelled reasons) reply q =
      (q ≡ p) × (reply ≡ Refused (refusal.Cancelled (reasons_told actions reasons)))
  IsToldEnd p actions consumed (TransactEnd.Mismatch number) reply q = (q ≡ p) × (reply ≡ Refused refusal.Mismatch)
  IsToldEnd p actions consumed (TransactEnd.NoTable place) reply q =
      (name : List ℕ) × IsGone p actions place name q × (reply ≡ Refused (refusal.NoTable name))
  IsToldEnd p actions consumed _ reply q = ⊥
