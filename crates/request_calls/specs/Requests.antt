-- What a try of any request comes to, each by the definition of its call.
use Rattle.std.specs.Prelude.{◌≡◌, ℕ, Bool, true, false, List}
use Rattle.turnstile.specs.Passes.{PassView, most_units}
use Rattle.cluster.specs.declared.step.StepError.{StepError}
use Rattle.coordinator.specs.Driving.{Added}
use Rattle.table_request.specs.declared.request.Request.{Request}
use Rattle.table_request.specs.declared.request.Request.TheVariants as request
use Rattle.table_model.specs.declared.reply.Reply.{Reply}
use Rattle.cell_model.specs.Service.{service}
use Rattle.table_history.specs.Entries.{TableEvent}
use Rattle.cell_asks.specs.declared.tried.Tried.{Tried}
use Rattle.cell_asks.specs.Steps.{GivesUp}
use Rattle.table_calls.specs.Commands.{CreatesTable, DeletesTable, UpdatesTable, UpdatesTimeToLive}
use Rattle.table_calls.specs.Questions.{DescribesTable, DescribesTimeToLive, ListsTables}
use Rattle.item_calls.specs.Items.{IsReadTry, IsWriteTry, WriteGivesUp}
use Rattle.batch_calls.specs.Batches.{IsBatchGetTry}
use Rattle.batch_calls.specs.Writes.{IsBatchWriteTry, BatchWriteGivesUp}
use Rattle.page_calls.specs.Asked.{a_scan, a_query}
use Rattle.page_calls.specs.Pages.{IsPageTry}
use Rattle.transact_calls.specs.declared.write.Transacted.{Transacted}
use Rattle.transact_calls.specs.Transactions.{IsTransactWriteTry, GivesUpOnce}
use Rattle.transact_calls.specs.Gets.{IsTransactGetTry}

-- a request that is one write
abbrev pub is_single_write : Request → Bool
is_single_write (request.PutItem r) = true
is_single_write (request.UpdateItem r) = true
is_single_write (request.DeleteItem r) = true
is_single_write _ = false

-- a call that is never tried again replied so
abbrev pub Replies : (Reply → Type 0) → Tried → Type 0
Replies P (Tried.Reply reply) = P reply
Replies P Tried.Again = ⊥

module _ (n : ℕ) (p : PassView TableEvent) where
  abbrev pub IsTry : Request → Tried → PassView TableEvent → Type 0
  IsTry (request.CreateTable r) tried q = Replies (λ reply. CreatesTable n p r reply q) tried
  IsTry (request.DeleteTable r) tried q = Replies (λ reply. DeletesTable n p r reply q) tried
  IsTry (request.UpdateTable r) tried q = Replies (λ reply. UpdatesTable n p r reply q) tried
  IsTry (request.DescribeTable r) tried q = Replies (λ reply. DescribesTable n p r reply q) tried
  IsTry (request.ListTables r) tried q = Replies (λ reply. ListsTables n p r reply q) tried
  IsTry (request.UpdateTimeToLive r) tried q = Replies (λ reply. UpdatesTimeToLive n p r reply q) tried
  IsTry (request.DescribeTimeToLive r) tried q = Replies (λ reply. DescribesTimeToLive n p r reply q) tried
  IsTry (request.GetItem r) tried q = IsReadTry n p r tried q
  IsTry (request.PutItem r) tried q = IsWriteTry n p (request.PutItem r) tried q
  IsTry (request.UpdateItem r) tried q = IsWriteTry n p (request.UpdateItem r) tried q
  IsTry (request.DeleteItem r) tried q = IsWriteTry n p (request.DeleteItem r) tried q
  IsTry (request.BatchGet r) tried q = IsBatchGetTry n p r tried q
  IsTry (request.BatchWrite r) tried q = IsBatchWriteTry n p r tried q
  IsTry (request.Query r) tried q = IsPageTry n p (a_query r) tried q
  IsTry (request.Scan r) tried q = IsPageTry n p (a_scan r) tried q
  IsTry (request.TransactWrite r) tried q = IsTransactWriteTry n p r (Transacted.Tried tried) q
  IsTry (request.TransactGet r) tried q = IsTransactGetTry n p r tried q

  -- an error ended the try: of those that write, what was written is the request's; any other bound nothing
  abbrev pub IsGivenUp : Request → StepError → PassView TableEvent → Type 0
  IsGivenUp (request.PutItem r) why q = WriteGivesUp n p (request.PutItem r) why q
  IsGivenUp (request.UpdateItem r) why q = WriteGivesUp n p (request.UpdateItem r) why q
  IsGivenUp (request.DeleteItem r) why q = WriteGivesUp n p (request.DeleteItem r) why q
  IsGivenUp (request.BatchWrite r) why q = BatchWriteGivesUp n p r why q
  IsGivenUp (request.TransactWrite r) why q = GivesUpOnce n p r why q
  IsGivenUp _ why q = GivesUp n p why q

  -- from p to q the pass counted these entries, at its moment, and they are what a try of the request comes to
  pub record Tries (asked : Request) (tried : Tried) (q : PassView TableEvent) : Type 0 where
    pub own : List TableEvent
    pub added : Added (service n) 1 p own q
    pub is : IsTry asked tried q

  -- the same of one that an error ended, which is that no unit is left only where none is
  pub record Stops (asked : Request) (why : StepError) (q : PassView TableEvent) : Type 0 where
    pub own : List TableEvent
    pub added : Added (service n) 1 p own q
    pub is : IsGivenUp asked why q
    pub spent : why ≡ StepError.Spent → q.used ≡ most_units
