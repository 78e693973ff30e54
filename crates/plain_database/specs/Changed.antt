-- What an update makes of one table.
use Rattle.std.specs.Prelude.{◌≡◌, Ok, Err}
use Rattle.table_request.specs.declared.tables.TableUpdate.{TableUpdate}
use Rattle.table_rows.specs.View.{TableView}
use Rattle.table_model.specs.declared.reply.Reply.{Reply}
use Rattle.table_model.specs.declared.reply.Reply.TheVariants as answer
use Rattle.schema_update.specs.Updated.{IsUpdated}

-- what comes of the update is shown: a refusal, and the table is as it was, or the schema that the table has now
abbrev pub IsChanged : TableView → TableUpdate → TableView → Reply → Type 0
IsChanged old update new (answer.Refused refusal) = IsUpdated old.schema update (Err refusal) × (new ≡ old)
IsChanged old update new (answer.Described schema) = IsUpdated old.schema update (Ok schema) × (new ≡ record old { schema = schema })
IsChanged old update new reply = ⊥
