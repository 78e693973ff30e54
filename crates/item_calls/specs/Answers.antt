-- What a try tells by the answer to its own Get or Write.
use Rattle.std.specs.Prelude.{◌≡◌, ◌⊎◌, ℕ, Option, None, Some}
use Rattle.attr_value.specs.Tree.{Attributes}
use Rattle.update_eval.specs.declared.fault.EvalFault.{EvalFault}
use Rattle.turnstile.specs.Passes.{PassView}
use Rattle.txn_core.specs.declared.message.Message.{Message}
use Rattle.txn_core.specs.declared.answer.Answer.{Answer}
use Rattle.cluster.specs.declared.step.StepError.{StepError}
use Rattle.expr_parse.specs.declared.tree.Update.{Update}
use Rattle.table_request.specs.declared.request.Request.{Request}
use Rattle.table_request.specs.declared.request.Request.TheVariants as request
use Rattle.table_request.specs.declared.items.ReturnValues.{ReturnValues}
use Rattle.table_request.specs.declared.items.GetItem.{GetItem}
use Rattle.table_request.specs.declared.items.PutItem.{PutItem}
use Rattle.table_request.specs.declared.items.UpdateItem.{UpdateItem}
use Rattle.table_request.specs.declared.items.DeleteItem.{DeleteItem}
use Rattle.table_model.specs.declared.reply.Reply.{Reply}
use Rattle.table_model.specs.declared.reply.Reply.TheVariants.{Refused}
use Rattle.table_model.specs.declared.refusal.Refusal.TheVariants as refusal
use Rattle.table_model.specs.declared.refusal.Invalid.{Invalid}
use Rattle.table_model.specs.declared.refusal.Invalid.TheVariants as invalid
use Rattle.table_model.specs.Reads.{told_read}
use Rattle.table_model.specs.Writes.{put_fault, shown}
use Rattle.table_items.specs.Steps.{told_of}
use Rattle.cell_model.specs.declared.key.CellKey.{CellKey}
use Rattle.cell_model.specs.Actions.{ItemAction, stated_put, stated_update, stated_delete}
use Rattle.table_history.specs.Entries.{TableAnswer, TableEvent}
use Rattle.table_history.specs.WriteEffects.{told_by, write_reply}
use Rattle.cell_asks.specs.declared.asks.Got.{Got}
use Rattle.cell_asks.specs.declared.asks.Wrote.{Wrote}
use Rattle.cell_asks.specs.declared.tried.Tried.{Tried}
use Rattle.cell_asks.specs.Steps.{One, GivesUp}
use Rattle.cell_asks.specs.Answers.{got_answer, wrote_answer}
use Rattle.item_calls.specs.declared.write.Faults.{Faults}
use Rattle.item_calls.specs.declared.write.WriteTelling.{WriteTelling}

-- ---- reads

abbrev pub read_tried : GetItem → Got → Tried
read_tried r (Got.Row item) = Tried.Reply (told_read r item)
read_tried r Got.Stale = Tried.Again

-- the own Get of the key, and what is told of it
pub record ReadAt (n : ℕ) (p : PassView TableEvent) (r : GetItem) (key : CellKey) (tried : Tried) (q : PassView TableEvent) : Type 0 where
  pub got : Got
  pub one : One n p (Message.Get key) (got_answer got) q
  pub is : tried ≡ read_tried r got

-- ---- writes

abbrev pub fault_told : Faults → EvalFault → Invalid
fault_told Faults.OfPut fault = put_fault fault
fault_told Faults.OfOther fault = invalid.Evaluation fault

-- the reply to a write by its answer, where it isn't held and its table is there
abbrev pub written_told : WriteTelling → TableAnswer → Option Reply
written_told t answer = told_by (fault_told t.faults) t.telling.show_old (told_of t.telling t.update) answer

abbrev pub tried_if : Option Reply → Tried
tried_if None = Tried.Again
tried_if (Some reply) = Tried.Reply reply

abbrev pub write_tried : (TableAnswer → Option Reply) → Wrote → Tried
write_tried told (Wrote.Held number) = Tried.Reply (Refused (refusal.Conflict number))
write_tried told Wrote.Stale = Tried.Again
write_tried told wrote = tried_if (told (wrote_answer wrote))

-- what is told is the reply to the request
abbrev pub TellsOf : WriteTelling → Request → Type 0
TellsOf t asked = (answer : TableAnswer) → written_told t answer ≡ write_reply asked answer

-- of each write both updates show the same
abbrev pub ShowAlike : ReturnValues → Option Update → Option Update → Type 0
ShowAlike show update other = (old new : Option Attributes) → shown show update old new ≡ shown show other old new

module _ (n : ℕ) (p : PassView TableEvent) (action : ItemAction) where
  -- the own Write of the action, and what is told of it
  pub record WroteAt (told : TableAnswer → Option Reply) (tried : Tried) (q : PassView TableEvent) : Type 0 where
    pub wrote : Wrote
    pub one : One n p (Message.Write action) (wrote_answer wrote) q
    pub is : tried ≡ write_tried told wrote

  -- the write was made
  pub record IsMade (q : PassView TableEvent) : Type 0 where
    pub old : Option Attributes
    pub new : Option Attributes
    pub one : One n p (Message.Write action) (Answer.Written old new) q

  -- it ended by an error: nothing was bound, or the write was made and memory was refused for its reply
  abbrev pub WriteStops : StepError → PassView TableEvent → Type 0
  WriteStops why q = GivesUp n p why q ⊎ ((why ≡ StepError.NoMemory) × IsMade q)

-- ---- the requests that write

module _ (n : ℕ) (p : PassView TableEvent) (key : CellKey) where
  abbrev pub PutAt : PutItem → Tried → PassView TableEvent → Type 0
  PutAt r tried q = WroteAt n p (stated_put key r) (write_reply (request.PutItem r)) tried q

  abbrev pub UpdateAt : UpdateItem → Tried → PassView TableEvent → Type 0
  UpdateAt r tried q = WroteAt n p (stated_update key r) (write_reply (request.UpdateItem r)) tried q

  abbrev pub DeleteAt : DeleteItem → Tried → PassView TableEvent → Type 0
  DeleteAt r tried q = WroteAt n p (stated_delete key r) (write_reply (request.DeleteItem r)) tried q
