-- What a session of a load sends: requests, each stated by a body.
use Rattle.std.specs.Prelude.{◌≡◌, ℕ, ◌+◌, ◌<◌, max, List, [], Ok, Some, codes}
use Rattle.turnstile.specs.Passes.{PassView, most_units}
use Rattle.cluster.specs.Counts.{Counts}
use Rattle.index_feeder.specs.Feeds.{Drains, LeavesDrained}
use Rattle.recovery_manager.specs.Sweeps.{Sweeps}
use Rattle.table_request.specs.declared.request.Request.{Request}
use Rattle.table_request.specs.declared.request.Request.TheVariants as request
use Rattle.table_request.specs.declared.transactions.TransactWrite.{TransactWrite}
use Rattle.table_model.specs.declared.reply.Reply.{Reply}
use Rattle.table_model.specs.declared.reply.Reply.TheVariants.{TransactWritten, Refused}
use Rattle.table_model.specs.declared.refusal.Refusal.TheVariants.{Cancelled}
use Rattle.api_request.specs.Requests.{IsRequest}
use Rattle.cell_model.specs.Service.{service}
use Rattle.table_history.specs.Entries.{TableEvent}
use Rattle.cell_asks.specs.declared.tried.Tried.{Tried}
use Rattle.cell_asks.specs.Steps.{bound}
use Rattle.request_calls.specs.Requests.{Tries}
use Rattle.transact_calls.specs.declared.write.Transacted.{Transacted}
use Rattle.transact_calls.specs.Transactions.{IsTransactWriteTry}
use Rattle.load_gen.specs.Bodies.{transfer_body}

-- what tells the operation of a body (X-Amz-Target)
abbrev pub transact_target : List ℕ
transact_target = codes "DynamoDB_20120810.TransactWriteItems"

-- a unit was used for a request, and the moment is that of a look at a clock, or later
pub record Begins (p q : PassView TableEvent) : Type 0 where
  pub moment : ℕ
  pub unit : p.used < most_units
  pub pass : q ≡ record p { used = p.used + 1; moment = max p.moment moment }

module _ (n : ℕ) (p : PassView TableEvent) where
  -- tries in vain, each of which found a table gone, bound nothing
  pub record InVain (q : PassView TableEvent) : Type 0 where
    pub own : List TableEvent
    pub counts : Counts (service n) p own 0 q
    pub nothing : bound own ≡ []

  -- the request that the body states under this target was tried until there was a reply
  pub record Answers (target body : List ℕ) (reply : Reply) (q : PassView TableEvent) : Type 0 where
    pub mid : PassView TableEvent
    pub vain : InVain mid
    pub asked : Request
    pub states : IsRequest (Some target) body (Ok asked)
    pub tries : Tries n mid asked (Tried.Reply reply) q

  -- the transaction that the body states was tried until it came to this
  pub record Transacts (body : List ℕ) (end : Transacted) (q : PassView TableEvent) : Type 0 where
    pub mid : PassView TableEvent
    pub vain : InVain mid
    pub asked : TransactWrite
    pub states : IsRequest (Some transact_target) body (Ok (request.TransactWrite asked))
    pub tried : IsTransactWriteTry n mid asked end q

-- ---- with a unit for each

module _ (n : ℕ) (p : PassView TableEvent) where
  pub record Asks (target body : List ℕ) (reply : Reply) (q : PassView TableEvent) : Type 0 where
    pub begun : PassView TableEvent
    pub begins : Begins p begun
    pub answers : Answers n begun target body reply q

  -- the transfer at a place was sent, which came to this
  pub record Sends (start place : ℕ) (end : Transacted) (q : PassView TableEvent) : Type 0 where
    pub begun : PassView TableEvent
    pub begins : Begins p begun
    pub transacts : Transacts n begun (transfer_body start place) end q

-- ---- how a transfer may end

-- it was made
abbrev pub IsMade : Transacted → Type 0
IsMade (Transacted.Tried (Tried.Reply (TransactWritten consumed))) = Unit {0}
IsMade _ = ⊥

-- it was begun: it was made, it was cancelled, or it was left in the middle
abbrev pub IsBegun : Transacted → Type 0
IsBegun (Transacted.Tried (Tried.Reply (TransactWritten consumed))) = Unit {0}
IsBegun (Transacted.Tried (Tried.Reply (Refused (Cancelled reasons)))) = Unit {0}
IsBegun Transacted.Stopped = Unit {0}
IsBegun _ = ⊥

-- ---- upkeep

-- each transaction that was not ended was driven to its end
pub record SweepsAll (n : ℕ) (p q : PassView TableEvent) : Type 0 where
  pub count : ℕ
  pub sweeps : Sweeps (service n) n p count q

-- each partition was fed until it was found empty
pub record DrainsAll (n : ℕ) (p q : PassView TableEvent) : Type 0 where
  pub fed : ℕ
  pub drains : Drains (service n) n p fed q
  pub drained : LeavesDrained (service n) p q
