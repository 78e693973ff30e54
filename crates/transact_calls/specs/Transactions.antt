-- What a try of a transaction comes to (API Reference: TransactWriteItems).
use Rattle.std.specs.Prelude.{◌≡◌, ◌⊎◌, ℕ, ◌≤◌, true, List, length, reverse}
use Rattle.std.specs.List.{AllByRecursion}
use Rattle.turnstile.specs.Passes.{PassView, most_units}
use Rattle.table_request.specs.declared.request.Request.TheVariants as request
use Rattle.table_request.specs.declared.transactions.TransactWrite.{TransactWrite}
use Rattle.table_model.specs.declared.reply.Reply.{Reply}
use Rattle.txn_core.specs.declared.message.Message.{Message}
use Rattle.cluster.specs.declared.step.StepError.{StepError}
use Rattle.coordinator.specs.Driving.{Added}
use Rattle.cell_model.specs.Actions.{ItemAction}
use Rattle.cell_model.specs.Service.{service}
use Rattle.table_history.specs.Entries.{TableEvent}
use Rattle.cell_asks.specs.declared.tried.Tried.{Tried}
use Rattle.cell_asks.specs.Steps.{binds, bound, IsInVain}
use Rattle.transact_asks.specs.Several.{WritesEnd, WritesAll}
use Rattle.transact_calls.specs.declared.write.Transacted.{Transacted}
use Rattle.transact_calls.specs.Looks.{Told, LookedAll, RefusedByLooks}
use Rattle.transact_calls.specs.Stated.{AreStated}
use Rattle.transact_calls.specs.Ends.{IsToldEnd}

module _ (n : ℕ) (p : PassView TableEvent) (r : TransactWrite) where
  -- by tables that Looks told of, the request states its actions; they were written as one transaction with its token, and the
  -- reply is told by its end
  pub record Writes (reply : Reply) (q : PassView TableEvent) : Type 0 where
    pub told : Told
    pub mid : PassView TableEvent
    pub looks : LookedAll n p told mid
    pub actions : List ItemAction
    pub stated : AreStated (reverse mid.front) r.actions actions
    pub after : PassView TableEvent
    pub end : WritesEnd
    pub wrote : WritesAll n mid r.token actions end after
    pub is : IsToldEnd n after actions r.consumed end reply q

  -- the entry is a Begin with the request's token and the actions that it states
  pub record IsItsBegin (es : List TableEvent) (e : TableEvent) : Type 0 where
    pub actions : List ItemAction
    pub stated : AreStated es r.actions actions
    pub is : e.message ≡ Message.Begin r.token actions

  -- it ended before its reply: of what it bound each is a Begin of the request, and there is one at most
  pub record LeavesOne (q : PassView TableEvent) : Type 0 where
    pub own : List TableEvent
    pub added : Added (service n) 1 p own q
    pub each : AllByRecursion (λ e. binds e.message e.answer ≡ true → IsItsBegin (reverse q.front) e) own
    pub once : length (bound own) ≤ 1

  -- so by an error, which is that no unit is left only where none is
  pub record GivesUpOnce (why : StepError) (q : PassView TableEvent) : Type 0 where
    pub leaves : LeavesOne q
    pub spent : why ≡ StepError.Spent → q.used ≡ most_units

  -- ---- the tries

  abbrev pub IsTransactWriteTry : Transacted → PassView TableEvent → Type 0
  IsTransactWriteTry (Transacted.Tried (Tried.Reply reply)) q = RefusedByLooks n p (request.TransactWrite r) reply q ⊎ Writes reply q
  IsTransactWriteTry (Transacted.Tried Tried.Again) q = IsInVain n p q
  IsTransactWriteTry Transacted.Stopped q = LeavesOne q
