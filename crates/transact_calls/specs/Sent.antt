-- What comes of actions that are sent as one transaction.
use Rattle.std.specs.Prelude.{◌≡◌, ◌≢◌, ◌⊎◌, ℕ, ◌≤◌, true, List, Option, length}
use Rattle.std.specs.List.{AllByRecursion}
use Rattle.turnstile.specs.Passes.{PassView, most_units}
use Rattle.table_request.specs.declared.consumed.Consumed.{Consumed}
use Rattle.table_model.specs.declared.reply.Reply.{Reply}
use Rattle.txn_core.specs.declared.message.Message.{Message}
use Rattle.cluster.specs.declared.step.StepError.{StepError}
use Rattle.coordinator.specs.Driving.{Added}
use Rattle.coordinator.specs.declared.transact_end.TransactEnd.{TransactEnd}
use Rattle.cell_model.specs.Actions.{ItemAction}
use Rattle.cell_model.specs.Service.{service}
use Rattle.table_history.specs.Entries.{TableEvent}
use Rattle.cell_asks.specs.declared.tried.Tried.{Tried}
use Rattle.cell_asks.specs.Steps.{binds, bound, GivesUp, IsInVain}
use Rattle.transact_asks.specs.Several.{WritesEnd, WritesAll}
use Rattle.transact_calls.specs.declared.write.Transacted.{Transacted}
use Rattle.transact_calls.specs.Ends.{IsToldEnd}

module _ (n : ℕ) (p : PassView TableEvent) where
  -- what is told by the end
  abbrev pub Tells : List ItemAction → Option (List Consumed) → WritesEnd → Transacted → PassView TableEvent → Type 0
  Tells actions consumed end (Transacted.Tried (Tried.Reply reply)) q = IsToldEnd n p actions consumed end reply q
  Tells actions consumed end (Transacted.Tried Tried.Again) q = (end ≡ TransactEnd.Stale) × (q ≡ p)
  Tells actions consumed end Transacted.Stopped q = (end ≡ TransactEnd.Stopped) × (q ≡ p)

  -- it is not told: memory was refused, or no unit was left for the transaction; or what was asked for the reply ended by the error
  abbrev pub TellsPartly : WritesEnd → StepError → PassView TableEvent → Type 0
  TellsPartly end why q =
      ((q ≡ p) × ((why ≡ StepError.NoMemory) ⊎ ((why ≡ StepError.Spent) × (end ≡ TransactEnd.Spent))))
      ⊎ ((end ≢ TransactEnd.NoMemory) × GivesUp n p why q)

  module _ (token : Option (List ℕ)) (actions : List ItemAction) where
    -- they were written as one transaction, and the reply is told by its end
    pub record SendsAll (consumed : Option (List Consumed)) (reply : Reply) (q : PassView TableEvent) : Type 0 where
      pub after : PassView TableEvent
      pub end : WritesEnd
      pub wrote : WritesAll n p token actions end after
      pub is : IsToldEnd n after actions consumed end reply q

    -- of what was bound each is a Begin of them, and there is one at most
    pub record LeavesBegin (q : PassView TableEvent) : Type 0 where
      pub own : List TableEvent
      pub added : Added (service n) 1 p own q
      pub each : AllByRecursion (λ e. binds e.message e.answer ≡ true → e.message ≡ Message.Begin token actions) own
      pub once : length (bound own) ≤ 1

    abbrev pub Sends : Option (List Consumed) → Transacted → PassView TableEvent → Type 0
    Sends consumed (Transacted.Tried (Tried.Reply reply)) q = SendsAll consumed reply q
    Sends consumed (Transacted.Tried Tried.Again) q = IsInVain n p q
    Sends consumed Transacted.Stopped q = LeavesBegin q

    -- so far, and then an error
    pub record SendsPartly (why : StepError) (q : PassView TableEvent) : Type 0 where
      pub leaves : LeavesBegin q
      pub spent : why ≡ StepError.Spent → q.used ≡ most_units
