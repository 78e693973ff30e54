-- UpdateTable: what was done to the table of the name is what the definitions do to the database.
use Rattle.std.specs.Map.{lookup, set_value}
use Rattle.std.proofs.Common.{◌≡◌, sym, ap, ◌∙◌, subst, Bool, true, false, ℕ, List, Option, None, Some, Result, Ok, Err, [], ◌∷◌}
use Rattle.client_tokens.specs.TokenMap.{TokenMap}
use Rattle.table_schema.specs.declared.schema.Schema.{Schema}
use Rattle.table_schema.specs.declared.fault.SchemaFault.TheVariants.{BadDefinition}
use Rattle.table_request.specs.declared.tables.TableUpdate.{TableUpdate}
use Rattle.table_request.specs.declared.tables.UpdateTable.{UpdateTable}
use Rattle.table_model.specs.declared.action.NumberedAction.{NumberedAction}
use Rattle.table_model.specs.declared.reply.Reply.{Reply}
use Rattle.table_model.specs.declared.reply.Reply.TheVariants as answer
use Rattle.table_model.specs.declared.refusal.Refusal.{Refusal}
use Rattle.table_model.specs.Database.{Database, Table, with_table, first, where_true}
use Rattle.table_model.specs.Catalog.{IsUpdateTable, IsUpdateIn, IsUpdatedTo, IsBadlyDefinedOr, IsRefusedFirst, schema_refusal, index_refusal, has_bad_definition, updated_schema}
use Rattle.table_rows.specs.View.{TableView}
use Rattle.schema_update.specs.Updated.{IsJudged, IsRefusedOr}
use Rattle.numbered_tables.specs.declared.table.NumberedTable.{NumberedTable}
use Rattle.numbered_tables.specs.Tables.{Kept, table_in, tables_in, database_in}
use Rattle.numbered_tables.proofs.Kept.{at, there, set_in, kept_same}
use Rattle.plain_database.specs.Changed.{IsChanged}

-- a refusal of the index, of a definition or of the schema that is stated
refused_in : (db new : Database) (name : List ℕ) (table : Table) (o : Option Refusal) (b : Bool) (stated : Schema) (refusal : Refusal) → new ≡ db
    → IsRefusedOr (first (o ∷ where_true b (schema_refusal BadDefinition) ∷ [])) (Err refusal) (IsJudged stated (Err refusal))
    → IsRefusedFirst o db new (answer.Refused refusal)
    (IsBadlyDefinedOr b db new (answer.Refused refusal) (IsUpdatedTo db name table stated new (answer.Refused refusal)))
refused_in db new name table (Some f) b stated refusal same is = λ i. (same i, answer.Refused (error_of (is i)))
  where
    error_of : Result Schema Refusal → Refusal
    error_of (Ok schema) = refusal
    error_of (Err e) = e
refused_in db new name table None true stated refusal same is = λ i. (same i, answer.Refused (error_of (is i)))
  where
    error_of : Result Schema Refusal → Refusal
    error_of (Ok schema) = refusal
    error_of (Err e) = e
refused_in db new name table None false stated refusal same is = (same, is)

-- the schema that is stated is valid, and the table has it
described_in : (db new : Database) (name : List ℕ) (table : Table) (o : Option Refusal) (b : Bool) (stated schema : Schema)
    → new ≡ with_table db name (record table { schema = schema })
    → IsRefusedOr (first (o ∷ where_true b (schema_refusal BadDefinition) ∷ [])) (Ok schema) (IsJudged stated (Ok schema))
    → IsRefusedFirst o db new (answer.Described schema)
    (IsBadlyDefinedOr b db new (answer.Described schema) (IsUpdatedTo db name table stated new (answer.Described schema)))
described_in db new name table (Some f) b stated schema made is = absurd (cc)
described_in db new name table None true stated schema made is = absurd (cc)
described_in db new name table None false stated schema made (valid, same) = (
  valid,
  made ∙ (λ i. with_table db name (let t : Table = record table { schema = same i } in t)),
  ap (λ (s : Schema). answer.Described s) same,
)

module _ (es entries : Kept) (tokens : TokenMap (List NumberedAction)) (made : ℕ) (r : UpdateTable) (x w : NumberedTable) where
  -- what was done to the table is done in the database
  pub updated_in : (reply : Reply) → lookup (at r.table) es ≡ Some x → entries ≡ set_value (at r.table) es w → w.number ≡ x.number
      → IsChanged x.rows r.update w.rows reply → IsUpdateTable (database_in es tokens made) r (database_in entries tokens made) reply
  updated_in reply found is number changed =
      subst (λ (o : Option Table). IsUpdateIn (database_in es tokens made) r o (database_in entries tokens made) reply)
      (sym (there es tokens made r.table x found)) (go reply changed)
    where
      go : (reply : Reply) → IsChanged x.rows r.update w.rows reply → IsUpdateIn (database_in es tokens made) r (Some (table_in x)) (database_in entries tokens made) reply
      go (answer.Refused refusal) (said, same) =
          refused_in (database_in es tokens made) (database_in entries tokens made) r.table (table_in x) (index_refusal x.rows.schema r.update.index)
          (has_bad_definition x.rows.schema.definitions r.update.definitions) (updated_schema x.rows.schema r.update) refusal
          (kept_same es entries tokens made r.table x w found is (λ i. record { number = number i; rows = same i })) said
      go (answer.Described schema) (said, same) =
          described_in (database_in es tokens made) (database_in entries tokens made) r.table (table_in x) (index_refusal x.rows.schema r.update.index)
          (has_bad_definition x.rows.schema.definitions r.update.definitions) (updated_schema x.rows.schema r.update) schema
          (λ i. (let d : Database = record {
            tables = (ap tables_in is ∙ set_in (at r.table) es w
                ∙ (λ j. set_value (at r.table) (tables_in es)
                (let t : Table = record { number = number j; schema = (same j).schema; rows = (same j).rows } in t))) i;
            tokens = tokens;
            made = made;
          } in d)) said
      go _ none = absurd none

-- and prepares nothing
pub changed_idle : (old new : TableView) (update : TableUpdate) (reply : Reply) → IsChanged old update new reply → new.pending ≡ old.pending
changed_idle old new update (answer.Refused refusal) (said, same) = ap (λ (v : TableView). v.pending) same
changed_idle old new update (answer.Described schema) (said, same) = ap (λ (v : TableView). v.pending) same
changed_idle old new update _ none = absurd none
