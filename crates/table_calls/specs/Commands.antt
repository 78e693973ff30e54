-- What a request that changes the catalog came to.
use Rattle.std.specs.Prelude.{◌≡◌, ◌⊎◌, ℕ, List, Some}
use Rattle.table_schema.specs.declared.fault.SchemaFault.{SchemaFault}
use Rattle.table_schema.specs.Index.{stated_of}
use Rattle.table_schema.specs.Fault.{IsFirstFault}
use Rattle.table_request.specs.declared.request.Request.{Request}
use Rattle.table_request.specs.declared.request.Request.TheVariants as request
use Rattle.table_request.specs.declared.tables.CreateTable.{CreateTable}
use Rattle.table_request.specs.declared.tables.DeleteTable.{DeleteTable}
use Rattle.table_request.specs.declared.tables.UpdateTable.{UpdateTable}
use Rattle.table_request.specs.declared.time_to_live.UpdateTimeToLive.{UpdateTimeToLive}
use Rattle.table_model.specs.declared.reply.Reply.{Reply}
use Rattle.table_model.specs.declared.reply.Reply.TheVariants.{Refused}
use Rattle.table_model.specs.declared.refusal.Refusal.TheVariants.{TableHeld}
use Rattle.table_model.specs.Catalog.{schema_refusal}
use Rattle.table_model.specs.Database.{Database}
use Rattle.turnstile.specs.Passes.{PassView}
use Rattle.txn_core.specs.declared.message.Message.{Message}
use Rattle.txn_core.specs.declared.answer.Answer.{Answer}
use Rattle.cell_model.specs.declared.command.CatalogCommand.{CatalogCommand}
use Rattle.cell_model.specs.declared.command.CatalogCommand.TheVariants.{Create}
use Rattle.cell_model.specs.declared.answer.CatalogAnswer.TheVariants.{BadSchema}
use Rattle.table_history.specs.Entries.{TableAnswer, TableEvent}
use Rattle.table_history.specs.Standing.{HasTables}
use Rattle.table_history.specs.CommandEffects.{command_of, HasEffect}
use Rattle.cell_asks.specs.Steps.{One, answered, past_of}

module _ (n : ℕ) (p : PassView TableEvent) where
  -- the reply by the answer to a command, which came after these entries: a transaction holds an item of the table, or it is that
  -- of [Effect] on the tables before it
  abbrev pub IsRuledReply : Request → List ℕ → CatalogCommand → List TableEvent → TableAnswer → Reply → Type 0
  IsRuledReply asked name command past (Answer.Held number) reply = reply ≡ Refused (TableHeld name)
  IsRuledReply asked name command past answer reply =
      (db : Database) → HasTables n past db → HasEffect n past (answered n p (Message.Command command) answer) asked reply db

  -- the pass had the command of the request answered, once, and the reply is the one by that answer
  pub record IsCommanded (asked : Request) (name : List ℕ) (reply : Reply) (q : PassView TableEvent) : Type 0 where
    pub command : CatalogCommand
    pub its : command_of asked ≡ Some command
    pub answer : TableAnswer
    pub own : One n p (Message.Command command) answer q
    pub is : IsRuledReply asked name command (past_of own) answer reply

  -- the schema that a CreateTable states breaks a rule, and the cells said so of its Create
  pub record BreaksRule (r : CreateTable) (reply : Reply) (q : PassView TableEvent) : Type 0 where
    pub fault : SchemaFault
    pub own : One n p (Message.Command (Create r.schema)) (Answer.Refused (BadSchema fault)) q
    pub first : IsFirstFault (stated_of r.schema) fault
    pub is : reply ≡ Refused (schema_refusal fault)

  -- where the schema is valid, only the first can be
  abbrev pub CreatesTable : CreateTable → Reply → PassView TableEvent → Type 0
  CreatesTable r reply q = IsCommanded (request.CreateTable r) r.schema.name reply q ⊎ BreaksRule r reply q

  abbrev pub DeletesTable : DeleteTable → Reply → PassView TableEvent → Type 0
  DeletesTable r reply q = IsCommanded (request.DeleteTable r) r.table reply q

  abbrev pub UpdatesTable : UpdateTable → Reply → PassView TableEvent → Type 0
  UpdatesTable r reply q = IsCommanded (request.UpdateTable r) r.table reply q

  abbrev pub UpdatesTimeToLive : UpdateTimeToLive → Reply → PassView TableEvent → Type 0
  UpdatesTimeToLive r reply q = IsCommanded (request.UpdateTimeToLive r) r.table reply q
