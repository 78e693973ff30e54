-- What a Look of a legal history told is a table of the catalog at that point.
use Rattle.std.proofs.Common.{◌≡◌, ℕ, List, ◌∷◌, ◌++◌, Option, None, Some, refl, sym, ap, subst, ◌∙◌}
use Rattle.table_schema.specs.declared.schema.Schema.{Schema}
use Rattle.txn_core.specs.declared.message.Message.{Message}
use Rattle.txn_core.specs.declared.answer.Answer.{Answer}
use Rattle.txn_core.specs.Serial.{catalog_of}
use Rattle.txn_core.specs.Legal.{state, IsAnswer, IsLegal}
use Rattle.txn_core.specs.Laws.{catalog_by, enters_order}
use Rattle.txn_core.proofs.Exports.{follows_at, catalog_is_serial, others_leave_the_order}
use Rattle.cell_model.specs.declared.catalog.CatalogTable.{CatalogTable}
use Rattle.cell_model.specs.declared.question.CatalogQuestion.TheVariants.{Look}
use Rattle.cell_model.specs.declared.answer.CatalogAnswer.TheVariants.{Table}
use Rattle.cell_model.specs.Catalogs.{named, numbered}
use Rattle.cell_model.specs.Pages.{told_table}
use Rattle.cell_model.specs.Service.{protocol, service}
use Rattle.cell_model.proofs.Lawful.{service_lawful}
use Rattle.table_history.specs.Entries.{TableEvent}
use Rattle.table_history.specs.SameTable.{StillHas, LooksHold}
use Rattle.table_history.proofs.NumbersStay.{numbers_stay}

-- the table that is told
record IsTold (found : Option CatalogTable) (number : ℕ) (schema : Schema) : Type 0 where
  table : CatalogTable
  found_is : found ≡ Some table
  number_is : table.number ≡ number
  schema_is : table.schema ≡ schema

told_is : (found : Option CatalogTable) (number : ℕ) (schema : Schema) (indexes : List ℕ) → told_table found ≡ Table number schema indexes → IsTold found number schema
told_is None number schema indexes e = absurd (cc)
told_is (Some t) number schema indexes e = record { table = t; found_is = refl; number_is = cc; schema_is = cc }

module _ (n : ℕ) (newer es : List TableEvent) (look : TableEvent) (legal : IsLegal (service n) (newer ++ look ∷ es)) (name : List ℕ) (asked : look.message ≡ Message.Ask (Look name)) where
  -- a Look changes nothing
  same : catalog_by (service n) (look ∷ es) ≡ catalog_by (service n) es
  same = ap (catalog_of (protocol n)) (others_leave_the_order look es (ap (λ m. enters_order m look.answer) asked))

  told : (number : ℕ) (old : Schema) (indexes : List ℕ) → look.answer ≡ Answer.Told (Table number old indexes)
      → told_table (named (catalog_by (service n) (look ∷ es)).tables name) ≡ Table number old indexes
  told number old indexes answered =
      let answer = subst (λ m. IsAnswer (service n) es look.moment m look.answer) asked (follows_at (service n) newer look es legal).answer in
      let both = sym answered ∙ answer in
      let there : told_table (named (state (service n) es).catalog.tables name) ≡ Table number old indexes = cc in
      ap (λ c. told_table (named c.tables name)) (same ∙ sym (catalog_is_serial (service n) (service_lawful n) es)) ∙ there

pub looks_hold : (n : ℕ) → LooksHold n
looks_hold n newer es look legal name asked number old indexes answered table at =
    let later = catalog_by (service n) (newer ++ look ∷ es) in
    let t = told_is (named (catalog_by (service n) (look ∷ es)).tables name) number old indexes (told n newer es look legal name asked number old indexes answered) in
    subst (λ s. StillHas later name s table) t.schema_is
    (numbers_stay n newer (look ∷ es) legal name t.table t.found_is table (ap (numbered later.tables) t.number_is ∙ at))
