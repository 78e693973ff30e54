-- What an update of a schema was answered is what becomes of the command.
use Rattle.std.proofs.Common.{◌≡◌, Bool, true, false, [], ◌∷◌, Option, None, Some, Result, Ok, Err, if◌then◌else◌, refl, ap, sym, subst, ◌∙◌}
use Rattle.std.specs.Prelude.{◌↔◌, IsOk, IfErr}
use Rattle.std.specs.Result.{result_err}
use Rattle.table_schema.specs.declared.schema.Schema.{Schema}
use Rattle.table_schema.specs.declared.fault.SchemaFault.{SchemaFault}
use Rattle.table_schema.specs.declared.fault.SchemaFault.TheVariants.{BadDefinition}
use Rattle.table_schema.specs.declared.stated.StatedSchema.{StatedSchema}
use Rattle.table_schema.specs.Index.{stated_of}
use Rattle.table_schema.specs.Rule.{IsSound}
use Rattle.table_schema.specs.Fault.{IsFirstFault}
use Rattle.table_request.specs.declared.tables.TableUpdate.{TableUpdate}
use Rattle.table_model.specs.declared.refusal.Refusal.{Refusal}
use Rattle.table_model.specs.Catalog.{index_refusal, has_bad_definition, schema_refusal, updated_schema}
use Rattle.table_model.specs.Database.{first, where_true}
use Rattle.schema_update.specs.Updated.{IsJudged, IsRefusedOr, IsUpdated}
use Rattle.txn_core.specs.declared.ruling.Ruling.{Ruling}
use Rattle.txn_core.specs.declared.ruling.Ruling.TheVariants.{Carries, Refuses}
use Rattle.cell_model.specs.declared.answer.CatalogAnswer.{CatalogAnswer}
use Rattle.cell_model.specs.declared.answer.CatalogAnswer.TheVariants as answer
use Rattle.cell_model.specs.declared.catalog.CatalogTable.{CatalogTable}
use Rattle.cell_model.specs.Commands.{index_fault, judged, unless, typed_ruling}
use Rattle.cell_model.specs.FirstFault.{first_fault}
use Rattle.cell_model.proofs.FirstFaults.{first_is, sound_is}
use Rattle.cell_model.proofs.IndexFaults.{unrefused}
use Rattle.cell_catalog.specs.Faults.{schema_fault}

-- what the check of a schema answers is its first fault
pub fault_found : {T : Type 0} (stated : StatedSchema) (checked : Result T SchemaFault) → (IsOk checked ↔ IsSound stated) → IfErr checked (IsFirstFault stated)
    → result_err checked ≡ first_fault stated
fault_found stated (Ok done) valid first_one = sym (sound_is stated (valid.0 refl))
fault_found stated (Err fault) valid first_one = sym (first_is stated fault first_one)

one_fault : {f g : SchemaFault} → Some f ≡ Some g → f ≡ g
one_fault e = cc

-- the refusal that is answered
refusal_in : Refusal → Result Schema Refusal → Refusal
refusal_in other (Ok schema) = other
refusal_in other (Err refusal) = refusal

module _ (stated : Schema) where
  -- what becomes of the command, by its first faults
  abbrev pub becomes : Option CatalogAnswer → Bool → Ruling CatalogAnswer
  becomes fault bad =
      unless fault (if bad then Refuses (answer.BadSchema BadDefinition) else judged (answer.Changed stated) (first_fault (stated_of stated)))

  abbrev pub Judges : Option Refusal → Bool → Result Schema Refusal → Type 0
  Judges refusal bad result =
      IsRefusedOr (first (refusal ∷ where_true bad (schema_refusal BadDefinition) ∷ [])) result (IsJudged stated result)

  pub carried : (fault : Option CatalogAnswer) (refusal : Option Refusal) (bad : Bool) (schema : Schema) → fault ≡ None → refusal ≡ None → Judges refusal bad (Ok schema) → Carries (answer.Changed schema) ≡ becomes fault bad
  carried None None true schema _ _ is = absurd (cc)
  carried None None false schema _ _ is =
      ap (λ s. Carries (answer.Changed s)) is.1 ∙ ap (judged (answer.Changed stated)) (sym (sound_is (stated_of stated) is.0))
  carried (Some fault) refusal bad schema e f is = absurd (cc)
  carried None (Some refusal) bad schema e f is = absurd (cc)

  pub refused : (fault : Option CatalogAnswer) (refusal : Option Refusal) (bad : Bool) (why : Refusal) (told : SchemaFault) → fault ≡ None → refusal ≡ None → Judges refusal bad (Err why) → schema_fault why ≡ Some told → Refuses (answer.BadSchema told) ≡ becomes fault bad
  unfolding refusal_in
  refused None None true why told _ _ is says =
      ap (λ f. Refuses (answer.BadSchema f)) (one_fault (sym says ∙ ap (λ r. schema_fault (refusal_in why r)) is))
  refused None None false why told _ _ (found, first_one, is) says =
      ap (λ f. Refuses (answer.BadSchema f)) (one_fault (sym says ∙ ap schema_fault is))
      ∙ ap (judged (answer.Changed stated)) (sym (first_is (stated_of stated) found first_one))
  refused (Some fault) refusal bad why told e f is says = absurd (cc)
  refused None (Some refusal) bad why told e f is says = absurd (cc)

-- the same of what the call answered
module _ (update : TableUpdate) (table : CatalogTable) (result : Result Schema Refusal) (none : index_fault table.schema update.index ≡ None) (is : IsUpdated table.schema update result) where
  pub is_carried : (schema : Schema) → result ≡ Ok schema → Carries (answer.Changed schema) ≡ typed_ruling update table
  is_carried schema e =
      carried (updated_schema table.schema update) (index_fault table.schema update.index) (index_refusal table.schema update.index)
      (has_bad_definition table.schema.definitions update.definitions) schema none (unrefused table.schema update.index none)
      (subst (IsUpdated table.schema update) e is)

  pub is_refused : (why : Refusal) (told : SchemaFault) → result ≡ Err why → schema_fault why ≡ Some told → Refuses (answer.BadSchema told) ≡ typed_ruling update table
  is_refused why told e says =
      refused (updated_schema table.schema update) (index_fault table.schema update.index) (index_refusal table.schema update.index)
      (has_bad_definition table.schema.definitions update.definitions) why told none (unrefused table.schema update.index none)
      (subst (IsUpdated table.schema update) e is) says
