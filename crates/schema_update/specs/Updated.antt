-- What an update makes of a schema.
use Rattle.std.specs.Prelude.{◌≡◌, [], ◌∷◌, Option, None, Some, Result, Ok, Err}
use Rattle.table_schema.specs.declared.schema.Schema.{Schema}
use Rattle.table_schema.specs.declared.fault.SchemaFault.{SchemaFault}
use Rattle.table_schema.specs.declared.fault.SchemaFault.TheVariants.{BadDefinition}
use Rattle.table_schema.specs.Rule.{IsValid}
use Rattle.table_schema.specs.Index.{stated_of}
use Rattle.table_schema.specs.Fault.{IsFirstFault}
use Rattle.table_request.specs.declared.tables.TableUpdate.{TableUpdate}
use Rattle.table_model.specs.declared.refusal.Refusal.{Refusal}
use Rattle.table_model.specs.Catalog.{index_refusal, has_bad_definition, schema_refusal, updated_schema}
use Rattle.table_model.specs.Database.{first, where_true}

-- the first refusal: of the index that comes or goes, or of a definition with a bad name, or that gives another type to a name
abbrev pub refusal_of : Schema → TableUpdate → Option Refusal
refusal_of schema update =
    first
    (index_refusal schema update.index
    ∷ where_true (has_bad_definition schema.definitions update.definitions) (schema_refusal BadDefinition) ∷ [])

-- what comes of the schema that is stated: its first fault, or itself where it keeps every rule
abbrev pub IsJudged : Schema → Result Schema Refusal → Type 0
IsJudged stated (Ok schema) = IsValid stated × (schema ≡ stated)
IsJudged stated (Err refusal) = (fault : SchemaFault) × IsFirstFault (stated_of stated) fault × (refusal ≡ schema_refusal fault)

-- the refusal, where there is one
abbrev pub IsRefusedOr : Option Refusal → Result Schema Refusal → Type 0 → Type 0
IsRefusedOr (Some refusal) result P = result ≡ Err refusal
IsRefusedOr None result P = P

-- what comes of an update of a schema
abbrev pub IsUpdated : Schema → TableUpdate → Result Schema Refusal → Type 0
IsUpdated schema update result =
    IsRefusedOr (refusal_of schema update) result (IsJudged (updated_schema schema update) result)
