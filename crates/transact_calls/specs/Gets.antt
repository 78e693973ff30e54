-- What a try of a read of several items at one point comes to (API Reference: TransactGetItems).
use Rattle.std.specs.Prelude.{◌≡◌, ◌⊎◌, ℕ, List, Option, reverse}
use Rattle.attr_value.specs.Tree.{Attributes}
use Rattle.update_eval.specs.declared.fault.EvalFault.{EvalFault}
use Rattle.turnstile.specs.Passes.{PassView}
use Rattle.table_request.specs.declared.request.Request.TheVariants as request
use Rattle.table_request.specs.declared.transactions.TransactGet.{TransactGet}
use Rattle.table_model.specs.declared.reply.Reply.{Reply}
use Rattle.table_model.specs.declared.reply.Reply.TheVariants.{Refused}
use Rattle.table_model.specs.declared.refusal.Refusal.TheVariants.{Cancelled}
use Rattle.table_model.specs.Database.{Database}
use Rattle.table_model.specs.Effect.{IsEffect}
use Rattle.transact_reads.specs.Told.{reads_told}
use Rattle.txn_core.specs.declared.reason.Reason.{Reason}
use Rattle.cluster.specs.declared.step.StepError.{StepError}
use Rattle.txn_reader.specs.declared.read_end.ReadEnd.{ReadEnd}
use Rattle.cell_model.specs.declared.key.CellKey.{CellKey}
use Rattle.table_history.specs.Entries.{TableEvent}
use Rattle.table_history.specs.Standing.{HasTables}
use Rattle.cell_asks.specs.declared.tried.Tried.{Tried}
use Rattle.cell_asks.specs.Steps.{IsInVain}
use Rattle.transact_asks.specs.Several.{ItemsEnd, ReadsAll}
use Rattle.transact_calls.specs.Looks.{Told, LookedAll, RefusedByLooks}
use Rattle.transact_calls.specs.Targets.{AreItemsOf}
use Rattle.transact_calls.specs.Ends.{read_reasons_told}

module _ (n : ℕ) (p : PassView TableEvent) (r : TransactGet) where
  module _ (mid : PassView TableEvent) (keys : List CellKey) (reply : Reply) (q : PassView TableEvent) where
    -- the items were read in two rounds, at one point: the reply is that of every database that has the tables there
    pub record ReadsTogether : Type 0 where
      pub items : List (Option Attributes)
      pub read : ReadsAll n mid keys (ReadEnd.Rows items) q
      pub is : (db : Database) → HasTables n read.point.log db → IsEffect db (request.TransactGet r) p.moment db reply

    -- a transaction held one of them, or one was changed between the rounds: the reason of each read is told, and no item
    pub record ReadsApart : Type 0 where
      pub reasons : List (Reason Attributes EvalFault)
      pub read : ReadsAll n mid keys (ReadEnd.Cancelled reasons) q
      pub is : reply ≡ Refused (Cancelled (read_reasons_told reasons))

  -- by tables that Looks told of, the request's items are at some keys; they were read, together or not
  pub record Gets (reply : Reply) (q : PassView TableEvent) : Type 0 where
    pub told : Told
    pub mid : PassView TableEvent
    pub looks : LookedAll n p told mid
    pub keys : List CellKey
    pub items : AreItemsOf (reverse mid.front) r.reads keys
    pub ends : ReadsTogether mid keys reply q ⊎ ReadsApart mid keys reply q

  abbrev pub IsTransactGetTry : Tried → PassView TableEvent → Type 0
  IsTransactGetTry (Tried.Reply reply) q = RefusedByLooks n p (request.TransactGet r) reply q ⊎ Gets reply q
  IsTransactGetTry Tried.Again q = IsInVain n p q

-- ---- what is told inside

-- by the end of the reads
abbrev pub TellsRead : TransactGet → ItemsEnd → Tried → Type 0
TellsRead r (ReadEnd.Rows items) tried = tried ≡ Tried.Reply (reads_told r.capacity r.reads items)
TellsRead r (ReadEnd.Cancelled reasons) tried = tried ≡ Tried.Reply (Refused (Cancelled (read_reasons_told reasons)))
TellsRead r (ReadEnd.NoTable place) tried = tried ≡ Tried.Again
TellsRead r _ tried = ⊥

-- memory was refused, or no unit was left for the reads
abbrev pub TellsNoRead : ItemsEnd → StepError → Type 0
TellsNoRead end why = (why ≡ StepError.NoMemory) ⊎ ((why ≡ StepError.Spent) × (end ≡ ReadEnd.Spent))

-- the items of these keys were read to some end, by which this is told
pub record ReadsAt (n : ℕ) (p : PassView TableEvent) (r : TransactGet) (keys : List CellKey) (tried : Tried) (q : PassView TableEvent) : Type 0 where
  pub end : ItemsEnd
  pub read : ReadsAll n p keys end q
  pub is : TellsRead r end tried
