-- Catalogs that commands have made, and what holds of them.
use Rattle.std.specs.Prelude.{◌≡◌, ℕ, ◌≤◌, true, false, nat_eq, List, [], ◌∷◌, map, length, None}
use Rattle.std.specs.List.{AllByRecursion, list_any, zip}
use Rattle.std.specs.List.Sorted.{IsStrictlySortedBy}
use Rattle.std.specs.Ordering.{nat_cmp}
use Rattle.std.specs.Cmp.Lexicographic.{slice_cmp}
use Rattle.table_schema.specs.Rule.{IsValid}
use Rattle.txn_core.specs.declared.ruling.Ruling.{Ruling}
use Rattle.txn_core.specs.declared.ruling.Ruling.TheVariants.{Carries, Refuses}
use Rattle.cell_model.specs.declared.catalog.Catalog.{Catalog}
use Rattle.cell_model.specs.declared.catalog.CatalogTable.{CatalogTable}
use Rattle.cell_model.specs.declared.command.CatalogCommand.{CatalogCommand}
use Rattle.cell_model.specs.declared.answer.CatalogAnswer.{CatalogAnswer}
use Rattle.cell_model.specs.Catalogs.{no_table, ascend_from, numbered_indexes, greatest_in, last_drawn}
use Rattle.cell_model.specs.Commands.{is_typed, refusal, ruling, catalog_after}

-- a table that was made: its schema is valid, and its global indexes have a number each, which ascend
pub record IsMade (table : CatalogTable) : Type 0 where
  pub valid : IsValid table.schema
  pub rising : ascend_from 0 table.indexes ≡ true
  pub paired : length table.indexes ≡ length table.schema.globals

-- no two tables have one number
abbrev pub AreApart : List CatalogTable → Type 0
AreApart [] = Unit {0}
AreApart (table ∷ tables) = (list_any (λ other. nat_eq other.number table.number) tables ≡ false) × AreApart tables

abbrev pub names_of : List CatalogTable → List (List ℕ)
names_of tables = map (λ table. table.schema.name) tables

-- a catalog that was made: such tables, under numbers that differ, in the order of their names; and no number that was
-- not drawn
pub record IsKept (catalog : Catalog) : Type 0 where
  pub tables : AllByRecursion IsMade catalog.tables
  pub apart : AreApart catalog.tables
  pub ordered : IsStrictlySortedBy (slice_cmp nat_cmp) (names_of catalog.tables)
  pub drawn : greatest_in catalog.tables ≤ catalog.drawn

-- the command is carried out
abbrev pub IsCarried : Ruling CatalogAnswer → Type 0
IsCarried (Carries told) = Unit {0}
IsCarried (Refuses told) = ⊥

-- the first catalog is so, and each that a command makes of such a one
pub record CommandsKeep : Type 0 where
  pub first : IsKept no_table
  pub next :
      (command : CatalogCommand) (moment : ℕ) (catalog : Catalog) → IsKept catalog → refusal command catalog ≡ None
      → IsCarried (ruling command catalog) → IsKept (catalog_after command moment catalog)

-- of such a catalog the count is the greatest number that was drawn, and each table has all its indexes under their
-- numbers and can be changed
pub record KeptIsWhole : Type 0 where
  pub drawn : (catalog : Catalog) → IsKept catalog → last_drawn catalog ≡ catalog.drawn
  pub indexes : (table : CatalogTable) → IsMade table → numbered_indexes table ≡ zip table.indexes table.schema.globals
  pub typed : (table : CatalogTable) → IsMade table → is_typed table.schema ≡ true
