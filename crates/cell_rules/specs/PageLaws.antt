-- A page is of rows of its own table alone.
use Rattle.std.specs.Prelude.{◌≡◌, ℕ, Bool, false, ◌&&◌, nat_eq, List, filter, Option, None, Some, if◌then◌else◌, refl}
use Rattle.std.proofs.Common.{ap, subst}
use Rattle.std.proofs.lemmas.Bool.{cond-false}
use Rattle.attr_value.specs.Tree.{Attributes}
use Rattle.row_keys.specs.Rows.{table_entries}
use Rattle.cell_model.specs.declared.key.CellKey.{CellKey}
use Rattle.cell_model.specs.declared.key.CellKey.TheVariants.{Item, Row}
use Rattle.cell_model.specs.declared.catalog.Catalog.{Catalog}
use Rattle.cell_model.specs.declared.catalog.CatalogTable.{CatalogTable}
use Rattle.cell_model.specs.declared.question.PageSource.{PageSource}
use Rattle.cell_model.specs.declared.question.PageSource.TheVariants as source
use Rattle.cell_model.specs.declared.question.CatalogQuestion.{CatalogQuestion}
use Rattle.cell_model.specs.declared.question.CatalogQuestion.TheVariants.{Look, Names, Page}
use Rattle.cell_model.specs.Catalogs.{numbered}
use Rattle.cell_model.specs.Keys.{table_of}
use Rattle.cell_model.specs.Pages.{CellRows, entry_in, item_in, items_of, local_rows, rows_in, source_rows}
use Rattle.cell_model.specs.Service.{service}
use Rattle.cell_model.proofs.Lookups.{own_number}
use Rattle.cell_pages.specs.Asked.{part_of_rows}
use Rattle.cell_pages.proofs.Walks.{picked_within}

-- the number of the table that a page is of
abbrev pub read_table : CatalogQuestion → ℕ
read_table (Page page) = page.table
read_table _ = 0

module _ (table : ℕ) where
  abbrev is_own : CellKey × Attributes → Bool
  is_own row = nat_eq (table_of row.0) table

  no_item : (row : CellKey × Attributes) → is_own row ≡ false → item_in table row ≡ None
  no_item (Item key, item) other = cond-false (nat_eq key.table table) (Some (key.key, item)) None other
  no_item (Row key, item) other = refl

  no_entry : (index : ℕ) (row : CellKey × Attributes) → is_own row ≡ false → entry_in table index row ≡ None
  no_entry index (Item key, item) other = refl
  no_entry index (Row key, item) other = ap (λ b. if b && nat_eq key.index index then Some (key.at, item) else None) other

  own_items : (rows : CellRows) → items_of table rows ≡ items_of table (filter is_own rows)
  own_items rows = picked_within (item_in table) is_own no_item rows

own_source : (t : CatalogTable) (read : PageSource) (rows : CellRows) → source_rows t read rows ≡ source_rows t read (filter (is_own t.number) rows)
own_source t source.Table rows = ap table_entries (own_items t.number rows)
own_source t (source.Local place) rows = ap (local_rows t.schema _) (own_items t.number rows)
own_source t (source.Global index) rows = picked_within (entry_in t.number index) (is_own t.number) (no_entry t.number index) rows

own_table : (catalog : Catalog) (table : ℕ) (read : PageSource) (rows : CellRows)
    → rows_in (numbered catalog.tables table) read rows ≡ rows_in (numbered catalog.tables table) read (filter (is_own table) rows)
own_table catalog table read rows = by (numbered catalog.tables table) refl
  where
    by : (o : Option CatalogTable) → numbered catalog.tables table ≡ o → rows_in o read rows ≡ rows_in o read (filter (is_own table) rows)
    by None is = refl
    by (Some t) is =
        subst (λ n. source_rows t read rows ≡ source_rows t read (filter (is_own n) rows)) (own_number catalog.tables table t is)
        (own_source t read rows)

pub own_rows : (partitions : ℕ) (catalog : Catalog) (rows : List (CellKey × Attributes)) (question : CatalogQuestion)
    → (service partitions).page catalog rows question
    ≡ (service partitions).page catalog (filter (λ row. nat_eq ((service partitions).core.table row.0) (read_table question)) rows) question
own_rows partitions catalog rows (Look name) = refl
own_rows partitions catalog rows (Names after limit) = refl
own_rows partitions catalog rows (Page page) = ap (part_of_rows page) (own_table catalog page.table page.source rows)
