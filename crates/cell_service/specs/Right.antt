-- What a right reply is where tables are in cells.
use Rattle.std.specs.Prelude.{◌≡◌, ◌⊎◌, ℕ, ◌-◌, List, []}
use Rattle.http_front.specs.declared.message.Message.{Message}
use Rattle.turnstile.specs.Passes.{PassView}
use Rattle.cluster.specs.declared.step.StepError.{StepError}
use Rattle.cluster.specs.Counts.{Counts}
use Rattle.coordinator.specs.Driving.{Added}
use Rattle.table_request.specs.declared.request.Request.{Request}
use Rattle.table_model.specs.declared.reply.Reply.{Reply}
use Rattle.table_model.specs.declared.reply.Reply.TheVariants.{Refused}
use Rattle.table_model.specs.declared.refusal.Refusal.TheVariants.{Conflict}
use Rattle.request_parts.specs.declared.refusal.Refusal.{Refusal}
use Rattle.table_service.specs.Telling.{States, IsRefusedAtOnce, Told, IsTold, told_budget, told_memory, told_refusal, told_reply}
use Rattle.cell_model.specs.Service.{service}
use Rattle.table_history.specs.Entries.{TableEvent}
use Rattle.cell_asks.specs.declared.tried.Tried.{Tried}
use Rattle.cell_asks.specs.Steps.{bound}
use Rattle.request_calls.specs.Requests.{Tries, Stops}

-- a transaction holds the item of a write
abbrev pub IsConflict : Reply → Type 0
IsConflict reply = (number : ℕ) × (reply ≡ Refused (Conflict number))

-- what is told of an error
abbrev pub told_error : StepError → Told
told_error StepError.NoMemory = told_memory
told_error StepError.Spent = told_budget

module _ (n : ℕ) (p : PassView TableEvent) where
  -- tries in vain, each of which found a table gone or an item held, bound nothing
  pub record InVain (q : PassView TableEvent) : Type 0 where
    pub own : List TableEvent
    pub counts : Counts (service n) p own 0 q
    pub nothing : bound own ≡ []

  -- a try of the request came to a reply, and this is told of it, or that memory was refused for that; or an error ended the try,
  -- which is told
  abbrev pub IsServed : Request → Told → PassView TableEvent → Type 0
  IsServed request tells q =
      ((reply : Reply) × Tries n p request (Tried.Reply reply) q × IsTold (told_reply reply) tells)
      ⊎ ((why : StepError) × Stops n p request why q × (tells ≡ told_error why))

  -- the message states a request, which was served; or it is refused; or memory was refused before it was read
  abbrev pub IsAnswered : Message → Told → PassView TableEvent → Type 0
  IsAnswered message tells q =
      ((request : Request) × States message request × IsServed request tells q)
      ⊎ ((refusal : Refusal) × IsRefusedAtOnce message refusal × (q ≡ p) × IsTold (told_refusal refusal) tells)
      ⊎ ((q ≡ p) × (tells ≡ told_memory))

-- from p to q these entries of its own were counted, at its moment: tries in vain, and then those of what is told of the message
pub record Answers (n : ℕ) (p : PassView TableEvent) (own : List TableEvent) (message : Message) (tells : Told) (q : PassView TableEvent) : Type 0 where
  pub added : Added (service n) 1 p own q
  pub mid : PassView TableEvent
  pub vain : InVain n p mid
  pub last : IsAnswered n mid message tells q

-- how many partitions the pass's cells are: all but the control cell
abbrev pub cells_of : PassView TableEvent → ℕ
cells_of p = p.turnstile.slots - 1

-- a right reply to a message
abbrev pub Right : PassView TableEvent → List TableEvent → PassView TableEvent → Message → ℕ → List ℕ → Type 0
Right p own q message status body = Answers (cells_of p) p own message (status, body) q
