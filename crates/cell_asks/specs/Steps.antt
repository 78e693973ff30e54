-- What a call adds to the one history, message by message.
use Rattle.std.specs.Prelude.{◌≡◌, ℕ, ◌<◌, Bool, true, false, List, [], filter}
use Rattle.turnstile.specs.Passes.{PassView}
use Rattle.txn_core.specs.declared.message.Message.{Message}
use Rattle.txn_core.specs.declared.answer.Answer.{Answer}
use Rattle.txn_core.specs.History.{is_written, is_changed}
use Rattle.txn_core.specs.Legal.{sent_to}
use Rattle.cluster.specs.declared.step.StepError.{StepError}
use Rattle.cluster.specs.Events.{event_of}
use Rattle.cluster.specs.Steps.{Adds}
use Rattle.cluster.specs.Counts.{Counts, CountsUntil}
use Rattle.cell_model.specs.Service.{service}
use Rattle.table_history.specs.Entries.{TableMessage, TableAnswer, TableEvent}

-- what a pass counts at its moment, among so many partitions
abbrev pub answered : ℕ → PassView TableEvent → TableMessage → TableAnswer → TableEvent
answered n p m a = event_of p (sent_to (service n) m) m a

-- from p to q the pass counted, for one unit, that the message was answered so. It is a record, so that no goal above shows the
-- service
pub record One (n : ℕ) (p : PassView TableEvent) (m : TableMessage) (a : TableAnswer) (q : PassView TableEvent) : Type 0 where
  pub adds : Adds (service n) p (sent_to (service n) m) m a q

-- all that had happened before that entry, the oldest first
abbrev pub past_of : {n : ℕ} {p q : PassView TableEvent} {m : TableMessage} {a : TableAnswer} → One n p m a q → List TableEvent
past_of one = one.adds.ends.past

-- the message was not answered, and nothing was counted
pub record Stops (n : ℕ) (p : PassView TableEvent) (why : StepError) (q : PassView TableEvent) : Type 0 where
  pub counts : CountsUntil (service n) p [] why q

-- ---- what binds a request

-- an entry that puts something into the one order, or draws a number
abbrev pub binds : TableMessage → TableAnswer → Bool
binds (Message.Write action) a = is_written a
binds (Message.Begin token actions) (Answer.Begun number stamp) = true
binds (Message.Command command) a = is_changed a
binds _ _ = false

abbrev pub bound : List TableEvent → List TableEvent
bound own = filter (λ e. binds e.message e.answer) own

-- a call that ended by an error bound nothing
pub record GivesUp (n : ℕ) (p : PassView TableEvent) (why : StepError) (q : PassView TableEvent) : Type 0 where
  pub own : List TableEvent
  pub counts : CountsUntil (service n) p own why q
  pub nothing : bound own ≡ []

-- a try in vain counted something, and bound nothing
pub record IsInVain (n : ℕ) (p q : PassView TableEvent) : Type 0 where
  pub own : List TableEvent
  pub counts : Counts (service n) p own 0 q
  pub nothing : bound own ≡ []
  pub more : p.used < q.used
