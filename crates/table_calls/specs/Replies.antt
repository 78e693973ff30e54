-- Replies by what is told, and by what is kept of a request whose command was sent.
use Rattle.std.specs.Prelude.{ℕ, List, Option, None, Some, option_map, if◌then◌else◌}
use Rattle.table_schema.specs.declared.schema.Schema.{Schema}
use Rattle.table_schema.specs.declared.fault.SchemaFault.TheVariants.{BadIndexName}
use Rattle.table_request.specs.declared.tables.IndexChange.{IndexChange}
use Rattle.table_request.specs.declared.tables.IndexChange.TheVariants.{Remove}
use Rattle.table_model.specs.declared.reply.Reply.{Reply}
use Rattle.table_model.specs.declared.reply.Reply.TheVariants.{Described, Refused, Tables}
use Rattle.table_model.specs.declared.refusal.Refusal.{Refusal}
use Rattle.table_model.specs.declared.refusal.Refusal.TheVariants as refusal
use Rattle.table_model.specs.Catalog.{last_name, schema_refusal}
use Rattle.cell_model.specs.declared.answer.NameList.{NameList}
use Rattle.cell_model.specs.declared.answer.CatalogAnswer.{CatalogAnswer}
use Rattle.cell_model.specs.declared.answer.CatalogAnswer.TheVariants as answer
use Rattle.cell_asks.specs.declared.asks.Ruled.{Ruled}

-- by the answer to a command: the table is held, or what is told says it
abbrev pub ruled_reply : List ℕ → (CatalogAnswer → Option Reply) → Ruled → Option Reply
ruled_reply name tell (Ruled.Changed told) = tell told
ruled_reply name tell (Ruled.Refused told) = tell told
ruled_reply name tell (Ruled.Held number) = Some (Refused (refusal.TableHeld name))

-- of a CreateTable, the table being made with this schema
abbrev pub create_told : Schema → CatalogAnswer → Option Reply
create_told made (answer.Made number) = Some (Described made)
create_told made answer.Exists = Some (Refused (refusal.TableExists made.name))
create_told made answer.Full = Some (Refused refusal.TooManyTables)
create_told made (answer.BadSchema fault) = Some (Refused (schema_refusal fault))
create_told made _ = None

-- of an UpdateTable of this name: which index was to go, why it is refused, and the reply
abbrev pub removed_name : Option IndexChange → Option (List ℕ)
removed_name (Some (Remove name)) = Some name
removed_name _ = None

abbrev pub update_refusal : List ℕ → Option (List ℕ) → CatalogAnswer → Option Refusal
update_refusal name removed answer.NoTable = Some (refusal.NoTable name)
update_refusal name removed answer.NoIndex = option_map (λ index. refusal.NoIndex index) removed
update_refusal name removed answer.IndexExists = Some (schema_refusal BadIndexName)
update_refusal name removed (answer.BadSchema fault) = Some (schema_refusal fault)
update_refusal name removed _ = None

abbrev pub update_told : List ℕ → Option (List ℕ) → CatalogAnswer → Option Reply
update_told name removed (answer.Changed schema) = Some (Described schema)
update_told name removed told = option_map (λ why. Refused why) (update_refusal name removed told)

-- the names of a ListTables, and the last of them where more follow
abbrev pub listed_reply : NameList → Reply
listed_reply list = Tables (record { names = list.names; last = if list.more then last_name list.names else None })
