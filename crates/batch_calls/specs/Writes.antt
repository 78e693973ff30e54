-- What a try of a BatchWriteItem comes to (API Reference: BatchWriteItem, UnprocessedItems).
use Rattle.std.specs.Prelude.{◌≡◌, ◌⊎◌, ℕ, List, [], ◌∷◌, ◌++◌, map, length, take, drop, filter_map, zip, Bool, true, false, if◌then◌else◌}
use Rattle.std.specs.Prelude.{Option, None, Some, Ok, reverse}
use Rattle.turnstile.specs.Passes.{PassView}
use Rattle.update_eval.specs.declared.fault.EvalFault.TheVariants.{IndexKey}
use Rattle.item_keys.specs.declared.key.Key.{Key}
use Rattle.row_keys.specs.Keys.{row_key}
use Rattle.txn_core.specs.declared.message.Message.{Message}
use Rattle.txn_core.specs.Laws.{catalog_by}
use Rattle.cluster.specs.declared.step.StepError.{StepError}
use Rattle.table_request.specs.declared.request.Request.{Request}
use Rattle.table_request.specs.declared.request.Request.TheVariants as request
use Rattle.table_request.specs.declared.consumed.Consumed.{Consumed}
use Rattle.table_request.specs.declared.batches.BatchWrite.{BatchWrite}
use Rattle.table_request.specs.declared.batches.TableWrites.{TableWrites}
use Rattle.table_request.specs.declared.batches.WriteRequest.{WriteRequest}
use Rattle.table_model.specs.declared.reply.Reply.{Reply}
use Rattle.table_model.specs.declared.reply.Reply.TheVariants.{BatchWritten}
use Rattle.table_model.specs.Batches.{batch_write_refusal}
use Rattle.table_model.specs.Consumed.{halves_written, used_by_all, where_asked}
use Rattle.cell_model.specs.declared.answer.TableLook.{TableLook}
use Rattle.cell_model.specs.Actions.{ItemAction}
use Rattle.cell_model.specs.Catalogs.{numbered}
use Rattle.cell_model.specs.Keys.{table_of}
use Rattle.cell_model.specs.Service.{service}
use Rattle.table_history.specs.Entries.{TableEvent}
use Rattle.cell_asks.specs.declared.asks.Wrote.{Wrote}
use Rattle.cell_asks.specs.declared.tried.Tried.{Tried}
use Rattle.cell_asks.specs.Steps.{answered, One, past_of, Stops, GivesUp}
use Rattle.cell_asks.specs.Answers.{wrote_answer}
use Rattle.cell_asks.specs.Told.{WasTold}
use Rattle.item_calls.specs.Places.{item_at}
use Rattle.item_calls.specs.Items.{IsStated, IsWriteReply}
use Rattle.batch_calls.specs.Looks.{LookedAll, Admits, RefusedByLooks}
use Rattle.batch_calls.specs.Singles.{write_alone, all_writes, key_written, action_alone}

-- ---- one write

-- by a table that a Look of this history told of, the write is this action on its item
pub record IsActionOf (es : List TableEvent) (name : List ℕ) (w : WriteRequest) (action : ItemAction) : Type 0 where
  pub look : TableLook
  pub told : WasTold es name look
  pub key : Key
  pub key_is : key_written look.schema w ≡ Ok key
  pub is : action ≡ action_alone name w (item_at look.number (row_key key))

-- the table of its item is not there after these entries
abbrev pub IsGone : ℕ → List TableEvent → ItemAction → Type 0
IsGone n log action = numbered (catalog_by (service n) (reverse log)).tables (table_of action.key) ≡ None

-- its table is gone; or the request states the action by its table as it is, and is replied to by itself as it was answered
abbrev pub IsDoneAlone : ℕ → List TableEvent → TableEvent → Request → ItemAction → Wrote → Type 0
IsDoneAlone n log e asked action Wrote.Stale = IsGone n log action
IsDoneAlone n log e asked action wrote =
    IsStated n log asked action × ((reply : Reply) × IsWriteReply n log e asked reply (wrote_answer wrote))

-- what a write without a condition can be answered: its item is small enough, so it is invalid only by the key of an index
abbrev pub CanBe : Wrote → Type 0
CanBe (Wrote.CondFalse old) = ⊥
CanBe (Wrote.Invalid fault) = fault ≡ IndexKey
CanBe _ = Unit {0}

-- one own Write of this write, answered so; it does what the write does as a request of its own
pub record WritesOne (n : ℕ) (p : PassView TableEvent) (name : List ℕ) (w : WriteRequest) (wrote : Wrote) (q : PassView TableEvent) : Type 0 where
  pub action : ItemAction
  pub of : IsActionOf (reverse p.front) name w action
  pub one : One n p (Message.Write action) (wrote_answer wrote) q
  pub can : CanBe wrote
  pub alone : IsDoneAlone n (past_of one) (answered n p (Message.Write action) (wrote_answer wrote)) (write_alone name w) action wrote

-- own Writes of the first of these, one after another, were answered so
abbrev pub AreWritten : ℕ → PassView TableEvent → List (List ℕ × WriteRequest) → List Wrote → PassView TableEvent → Type 0
AreWritten n p ws [] q = q ≡ p
AreWritten n p (w ∷ ws) (wrote ∷ wrotes) q = (mid : PassView TableEvent) × WritesOne n p w.0 w.1 wrote mid × AreWritten n mid ws wrotes q
AreWritten n p [] (wrote ∷ wrotes) q = ⊥

-- ---- what is told of all

abbrev pub is_made : Wrote → Bool
is_made (Wrote.Written old new) = true
is_made _ = false

abbrev pub unless_made : Wrote × WriteRequest → Option WriteRequest
unless_made both = if is_made both.0 then None else Some both.1

-- those of the writes that were not made
abbrev pub unmade : List Wrote → List WriteRequest → List WriteRequest
unmade wrotes ws = filter_map unless_made (zip wrotes ws)

-- some writes of a table, where there are some
abbrev pub unwritten_in : List ℕ → List WriteRequest → List TableWrites
unwritten_in table [] = []
unwritten_in table (w ∷ ws) = record { table = table; writes = w ∷ ws } ∷ []

-- of each table those of its writes that were not made; the answers are those of all writes, table after table
abbrev pub unwritten : List TableWrites → List Wrote → List TableWrites
unwritten [] wrotes = []
unwritten (t ∷ ts) wrotes =
    unwritten_in t.table (unmade (take (length t.writes) wrotes) t.writes) ++ unwritten ts (drop (length t.writes) wrotes)

-- a write that was not made uses nothing
abbrev pub halves_used : Wrote → ℕ
halves_used (Wrote.Written old new) = halves_written old new
halves_used _ = 0

-- of each table what its writes used
abbrev pub used_among : List TableWrites → List Wrote → List Consumed
used_among [] wrotes = []
used_among (t ∷ ts) wrotes =
    used_by_all t.table halves_used (take (length t.writes) wrotes) ∷ used_among ts (drop (length t.writes) wrotes)

-- the reply where the writes were answered so
abbrev pub told_writes : BatchWrite → List Wrote → Reply
told_writes r wrotes = BatchWritten (unwritten r.tables wrotes) (where_asked r.capacity (used_among r.tables wrotes))

-- ---- the tries

abbrev pub names_written : BatchWrite → List (List ℕ)
names_written r = map (λ t. t.table) r.tables

module _ (n : ℕ) (p : PassView TableEvent) (r : BatchWrite) where
  -- Looks admit the request, then each of its writes was sent by itself, in order
  pub record WritesAll (reply : Reply) (q : PassView TableEvent) : Type 0 where
    pub mid : PassView TableEvent
    pub looked : LookedAll n p (names_written r) mid
    pub free : Admits (λ db. batch_write_refusal db r.tables) (names_written r) (reverse mid.front)
    pub wrotes : List Wrote
    pub writes : AreWritten n mid (all_writes r.tables) wrotes q
    pub all : length wrotes ≡ length (all_writes r.tables)
    pub is : reply ≡ told_writes r wrotes

  -- the same of the first of its writes, and then it ended by the error
  pub record WritesFirst (why : StepError) (q : PassView TableEvent) : Type 0 where
    pub mid : PassView TableEvent
    pub looked : LookedAll n p (names_written r) mid
    pub free : Admits (λ db. batch_write_refusal db r.tables) (names_written r) (reverse mid.front)
    pub wrotes : List Wrote
    pub after : PassView TableEvent
    pub writes : AreWritten n mid (all_writes r.tables) wrotes after
    pub stops : Stops n after why q

  -- a table that is gone leaves its writes unwritten, so no try is in vain
  abbrev pub IsBatchWriteTry : Tried → PassView TableEvent → Type 0
  IsBatchWriteTry (Tried.Reply reply) q = RefusedByLooks n p (names_written r) (request.BatchWrite r) reply q ⊎ WritesAll reply q
  IsBatchWriteTry Tried.Again q = ⊥

  -- nothing was bound; or the first of the writes were sent
  abbrev pub BatchWriteGivesUp : StepError → PassView TableEvent → Type 0
  BatchWriteGivesUp why q = GivesUp n p why q ⊎ WritesFirst why q
