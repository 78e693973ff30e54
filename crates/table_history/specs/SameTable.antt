-- A number stands for one table as long as it is there.
use Rattle.std.specs.Prelude.{◌≡◌, ℕ, Bool, true, ◌||◌, List, ◌∷◌, ◌++◌, Some}
use Rattle.std.specs.List.{list_any}
use Rattle.table_schema.specs.declared.schema.Schema.{Schema}
use Rattle.table_schema.specs.Kind.{kind_of}
use Rattle.table_schema.specs.KeyName.{is_key_name}
use Rattle.txn_core.specs.declared.message.Message.{Message}
use Rattle.txn_core.specs.declared.answer.Answer.{Answer}
use Rattle.txn_core.specs.Legal.{IsLegal}
use Rattle.txn_core.specs.Laws.{catalog_by}
use Rattle.cell_model.specs.declared.catalog.Catalog.{Catalog}
use Rattle.cell_model.specs.declared.catalog.CatalogTable.{CatalogTable}
use Rattle.cell_model.specs.declared.question.CatalogQuestion.TheVariants.{Look}
use Rattle.cell_model.specs.declared.answer.CatalogAnswer.TheVariants.{Table}
use Rattle.cell_model.specs.Catalogs.{named, numbered}
use Rattle.cell_model.specs.Service.{service}
use Rattle.table_history.specs.Entries.{TableEvent}

-- the attribute is in the table's key, or in that of a local index
abbrev pub lasts : Schema → List ℕ → Bool
lasts schema name = is_key_name schema.keys name || list_any (λ index. is_key_name index.keys name) schema.locals

-- the new schema is of the table of the old one: its name, its key and its local indexes, and the types of their attributes
pub record IsOfThatTable (old new : Schema) : Type 0 where
  pub name : new.name ≡ old.name
  pub keys : new.keys ≡ old.keys
  pub locals : new.locals ≡ old.locals
  pub kinds : (name : List ℕ) → lasts old name ≡ true → kind_of name new.definitions ≡ kind_of name old.definitions

-- a table that is there has the name, and its schema is of the table that had it
pub record StillHas (later : Catalog) (name : List ℕ) (old : Schema) (table : CatalogTable) : Type 0 where
  pub named : named later.tables name ≡ Some table
  pub that : IsOfThatTable old table.schema

-- what is there later under the number of a table is that table
abbrev pub NumbersStay : ℕ → Type 0
NumbersStay n =
    (newer es : List TableEvent) → IsLegal (service n) (newer ++ es) → (name : List ℕ) (old : CatalogTable)
    → named (catalog_by (service n) es).tables name ≡ Some old → (table : CatalogTable)
    → numbered (catalog_by (service n) (newer ++ es)).tables old.number ≡ Some table
    → StillHas (catalog_by (service n) (newer ++ es)) name old.schema table

-- so is what is there under a number that a Look told
abbrev pub LooksHold : ℕ → Type 0
LooksHold n =
    (newer es : List TableEvent) (look : TableEvent) → IsLegal (service n) (newer ++ look ∷ es)
    → (name : List ℕ) → look.message ≡ Message.Ask (Look name)
    → (number : ℕ) (old : Schema) (indexes : List ℕ) → look.answer ≡ Answer.Told (Table number old indexes)
    → (table : CatalogTable) → numbered (catalog_by (service n) (newer ++ look ∷ es)).tables number ≡ Some table
    → StillHas (catalog_by (service n) (newer ++ look ∷ es)) name old table
