-- What a try of a request on one item comes to (API Reference: GetItem, PutItem, UpdateItem, DeleteItem).
use Rattle.std.specs.Prelude.{◌≡◌, ◌⊎◌, ℕ, List, [], Option, Some, Ok, reverse}
use Rattle.attr_value.specs.Tree.{Attributes}
use Rattle.turnstile.specs.Passes.{PassView}
use Rattle.txn_core.specs.declared.message.Message.{Message}
use Rattle.txn_core.specs.declared.answer.Answer.{Answer}
use Rattle.txn_core.specs.Laws.{catalog_by}
use Rattle.cluster.specs.declared.step.StepError.{StepError}
use Rattle.item_keys.specs.declared.key.Key.{Key}
use Rattle.item_keys.specs.ItemKey.{key_alone}
use Rattle.table_request.specs.declared.request.Request.{Request}
use Rattle.table_request.specs.declared.request.Request.TheVariants as request
use Rattle.table_request.specs.declared.items.GetItem.{GetItem}
use Rattle.table_model.specs.declared.reply.Reply.{Reply}
use Rattle.table_model.specs.declared.reply.Reply.TheVariants.{Refused}
use Rattle.table_model.specs.declared.refusal.Refusal.{Refusal}
use Rattle.table_model.specs.declared.refusal.Refusal.TheVariants.{Conflict}
use Rattle.table_model.specs.Database.{Database}
use Rattle.table_model.specs.Effect.{IsEffect}
use Rattle.cell_model.specs.declared.answer.TableLook.{TableLook}
use Rattle.cell_model.specs.declared.catalog.CatalogTable.{CatalogTable}
use Rattle.cell_model.specs.declared.key.CellKey.{CellKey}
use Rattle.cell_model.specs.declared.question.CatalogQuestion.TheVariants.{Look}
use Rattle.cell_model.specs.Actions.{ItemAction}
use Rattle.cell_model.specs.Catalogs.{numbered}
use Rattle.cell_model.specs.Service.{service}
use Rattle.table_history.specs.Entries.{TableAnswer, TableEvent}
use Rattle.table_history.specs.Standing.{HasTables, HasShown}
use Rattle.table_history.specs.CommandEffects.{HasEffect}
use Rattle.table_history.specs.WriteEffects.{item_key, StatesWrite}
use Rattle.cell_asks.specs.declared.tried.Tried.{Tried}
use Rattle.cell_asks.specs.Steps.{answered, One, past_of, GivesUp, IsInVain}
use Rattle.cell_asks.specs.Answers.{look_answer}
use Rattle.cell_asks.specs.Told.{Looked}

-- the table of a request on one item, or for a page
abbrev pub table_asked : Request → List ℕ
table_asked (request.GetItem r) = r.table
table_asked (request.PutItem r) = r.table
table_asked (request.UpdateItem r) = r.table
table_asked (request.DeleteItem r) = r.table
table_asked (request.Query r) = r.page.table
table_asked (request.Scan r) = r.page.table
table_asked _ = []

-- ---- which item

-- a table that is there has, after these entries, the item of the read at this place
pub record IsReadAt (n : ℕ) (log : List TableEvent) (r : GetItem) (at : CellKey) : Type 0 where
  pub table : CatalogTable
  pub there : numbered (catalog_by (service n) (reverse log)).tables table.number ≡ Some table
  pub name : table.schema.name ≡ r.table
  pub key : Key
  pub key_is : key_alone table.schema table.schema.keys r.key ≡ Ok key
  pub is : at ≡ item_key table key

-- the request states the action, by a table that is there after these entries
pub record IsStated (n : ℕ) (log : List TableEvent) (request : Request) (action : ItemAction) : Type 0 where
  pub table : CatalogTable
  pub there : numbered (catalog_by (service n) (reverse log)).tables table.number ≡ Some table
  pub key : Key
  pub states : StatesWrite request table key action

-- the reply to a write: a transaction held the item; else it is that of every database that has the tables before the entry
abbrev pub IsWriteReply : ℕ → List TableEvent → TableEvent → Request → Reply → TableAnswer → Type 0
IsWriteReply n log e request reply (Answer.Held number) = reply ≡ Refused (Conflict number)
IsWriteReply n log e request reply Answer.Stale = ⊥
IsWriteReply n log e request reply _ = (db : Database) → HasTables n log db → HasEffect n log e request reply db

-- ---- what a try adds to the history, and what it replies

module _ (n : ℕ) (p : PassView TableEvent) where
  -- refused by what the own Look told, as every database is that has the tables then
  pub record RefusedByLook (request : Request) (reply : Reply) (q : PassView TableEvent) : Type 0 where
    pub told : Option TableLook
    pub look : One n p (Message.Ask (Look (table_asked request))) (look_answer told) q
    pub why : Refusal
    pub reply_is : reply ≡ Refused why
    pub is : (db : Database) → HasTables n (past_of look) db → IsEffect db request p.moment db reply

  -- the own Get, of the item, and the reply of every database that has what readers are shown before its entry
  pub record Reads (r : GetItem) (reply : Reply) (q : PassView TableEvent) : Type 0 where
    pub mid : PassView TableEvent
    pub looked : Looked n p r.table mid
    pub key : CellKey
    pub item : Option Attributes
    pub got : One n mid (Message.Get key) (Answer.Row item) q
    pub of : IsReadAt n (past_of got) r key
    pub is : (db : Database) → HasShown n (past_of got) db → IsEffect db (request.GetItem r) p.moment db reply

  -- the own Write, of the action that the request states, and the reply by its answer; a conflict is told only where it was held
  pub record Writes (request : Request) (reply : Reply) (q : PassView TableEvent) : Type 0 where
    pub mid : PassView TableEvent
    pub looked : Looked n p (table_asked request) mid
    pub action : ItemAction
    pub answer : TableAnswer
    pub wrote : One n mid (Message.Write action) answer q
    pub stated : IsStated n (past_of wrote) request action
    pub is : IsWriteReply n (past_of wrote) (answered n mid (Message.Write action) answer) request reply answer
    pub held : (number : ℕ) → reply ≡ Refused (Conflict number) → answer ≡ Answer.Held number

  -- ---- the tries

  abbrev pub IsReadTry : GetItem → Tried → PassView TableEvent → Type 0
  IsReadTry r (Tried.Reply reply) q = RefusedByLook (request.GetItem r) reply q ⊎ Reads r reply q
  IsReadTry r Tried.Again q = IsInVain n p q

  abbrev pub IsWriteTry : Request → Tried → PassView TableEvent → Type 0
  IsWriteTry request (Tried.Reply reply) q = RefusedByLook request reply q ⊎ Writes request reply q
  IsWriteTry request Tried.Again q = IsInVain n p q

  -- the own Write was made, of the action that the request states
  pub record IsWritten (request : Request) (q : PassView TableEvent) : Type 0 where
    pub mid : PassView TableEvent
    pub looked : Looked n p (table_asked request) mid
    pub action : ItemAction
    pub old : Option Attributes
    pub new : Option Attributes
    pub wrote : One n mid (Message.Write action) (Answer.Written old new) q
    pub stated : IsStated n (past_of wrote) request action

  -- a write ended by an error: nothing was bound, or the write was made and memory was refused for its reply
  abbrev pub WriteGivesUp : Request → StepError → PassView TableEvent → Type 0
  WriteGivesUp request why q = GivesUp n p why q ⊎ ((why ≡ StepError.NoMemory) × IsWritten request q)
