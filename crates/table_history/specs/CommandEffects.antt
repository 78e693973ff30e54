-- Commands do to the databases that have a history's tables what the requests do that state them.
use Rattle.std.specs.Prelude.{◌≡◌, ℕ, List, [], ◌∷◌, ◌++◌, Option, None, Some, reverse}
use Rattle.table_request.specs.declared.request.Request.{Request}
use Rattle.table_request.specs.declared.request.Request.TheVariants as request
use Rattle.table_request.specs.declared.tables.IndexChange.{IndexChange}
use Rattle.table_request.specs.declared.tables.IndexChange.TheVariants.{Remove}
use Rattle.table_request.specs.declared.tables.UpdateTable.{UpdateTable}
use Rattle.table_request.specs.declared.time_to_live.UpdateTimeToLive.{UpdateTimeToLive}
use Rattle.table_schema.specs.declared.schema.Schema.{Schema}
use Rattle.table_schema.specs.declared.fault.SchemaFault.TheVariants.{BadIndexName}
use Rattle.table_model.specs.declared.reply.Reply.{Reply}
use Rattle.table_model.specs.declared.reply.Reply.TheVariants.{Described, Refused, TimeToLiveSet}
use Rattle.table_model.specs.declared.refusal.Refusal.TheVariants as refusal
use Rattle.table_model.specs.declared.refusal.Invalid.TheVariants as invalid
use Rattle.table_model.specs.Catalog.{made_at, schema_refusal}
use Rattle.table_model.specs.Database.{Database}
use Rattle.table_model.specs.Effect.{IsEffect}
use Rattle.txn_core.specs.declared.message.Message.{Message}
use Rattle.txn_core.specs.declared.answer.Answer.{Answer}
use Rattle.txn_core.specs.Legal.{IsLegal}
use Rattle.cell_model.specs.declared.command.CatalogCommand.{CatalogCommand}
use Rattle.cell_model.specs.declared.command.CatalogCommand.TheVariants.{Create, Drop, Change, TimeToLive}
use Rattle.cell_model.specs.declared.answer.CatalogAnswer.{CatalogAnswer}
use Rattle.cell_model.specs.declared.answer.CatalogAnswer.TheVariants as answer
use Rattle.cell_model.specs.Service.{service}
use Rattle.table_history.specs.Entries.{TableAnswer, TableEvent}
use Rattle.table_history.specs.Standing.{HasTables}

-- the command that a request states
abbrev pub command_of : Request → Option CatalogCommand
command_of (request.CreateTable r) = Some (Create r.schema)
command_of (request.DeleteTable r) = Some (Drop r.table)
command_of (request.UpdateTable r) = Some (Change r.table r.update)
command_of (request.UpdateTimeToLive r) = Some (TimeToLive r.table r.name r.enabled)
command_of _ = None

-- ---- replies by what is told

-- no CreateTable states a schema that breaks a rule, so to none is a fault told
abbrev pub create_reply : Schema → ℕ → CatalogAnswer → Option Reply
create_reply schema moment (answer.Made number) = Some (Described (made_at moment schema))
create_reply schema moment answer.Exists = Some (Refused (refusal.TableExists schema.name))
create_reply schema moment answer.Full = Some (Refused refusal.TooManyTables)
create_reply schema moment _ = None

abbrev pub delete_reply : List ℕ → CatalogAnswer → Option Reply
delete_reply name (answer.Dropped schema) = Some (Described schema)
delete_reply name answer.NoTable = Some (Refused (refusal.NoTable name))
delete_reply name _ = None

-- the name of an index that is to go
abbrev pub index_named : Option IndexChange → Option Reply
index_named (Some (Remove name)) = Some (Refused (refusal.NoIndex name))
index_named _ = None

abbrev pub update_reply : UpdateTable → CatalogAnswer → Option Reply
update_reply r (answer.Changed schema) = Some (Described schema)
update_reply r answer.NoTable = Some (Refused (refusal.NoTable r.table))
update_reply r answer.NoIndex = index_named r.update.index
update_reply r answer.IndexExists = Some (Refused (schema_refusal BadIndexName))
update_reply r (answer.BadSchema fault) = Some (Refused (schema_refusal fault))
update_reply r _ = None

abbrev pub ttl_reply : UpdateTimeToLive → CatalogAnswer → Option Reply
ttl_reply r (answer.Changed schema) = Some (TimeToLiveSet r.name r.enabled)
ttl_reply r answer.NoTable = Some (Refused (refusal.NoTable r.table))
ttl_reply r (answer.TtlRefused fault) = Some (Refused (refusal.Invalid (invalid.TimeToLive fault)))
ttl_reply r _ = None

abbrev pub reply_to : Request → ℕ → CatalogAnswer → Option Reply
reply_to (request.CreateTable r) moment told = create_reply r.schema moment told
reply_to (request.DeleteTable r) moment told = delete_reply r.table told
reply_to (request.UpdateTable r) moment told = update_reply r told
reply_to (request.UpdateTimeToLive r) moment told = ttl_reply r told
reply_to _ moment told = None

-- the reply by a command's answer; of one that a transaction stands in the way of nothing is said
abbrev pub reply_by : Request → ℕ → TableAnswer → Option Reply
reply_by request moment (Answer.Changed told) = reply_to request moment told
reply_by request moment (Answer.Refused told) = reply_to request moment told
reply_by request moment _ = None

-- ---- the law

-- [Effect] of the request makes of the database, with this reply, one that has the tables with the entry
pub record HasEffect (n : ℕ) (log : List TableEvent) (e : TableEvent) (request : Request) (reply : Reply) (db : Database) : Type 0 where
  pub new : Database
  pub effect : IsEffect db request e.moment new reply
  pub tables : HasTables n (log ++ e ∷ []) new

-- the entry is the command of a request, and was answered so
abbrev pub CommandsAreEffects : ℕ → Type 0
CommandsAreEffects n =
    (log : List TableEvent) (e : TableEvent) → IsLegal (service n) (reverse (log ++ e ∷ []))
    → (request : Request) (command : CatalogCommand) → command_of request ≡ Some command → e.message ≡ Message.Command command
    → (reply : Reply) → reply_by request e.moment e.answer ≡ Some reply
    → (db : Database) → HasTables n log db → HasEffect n log e request reply db
