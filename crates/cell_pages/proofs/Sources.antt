-- The rows of a table or of a global index are those that stand under its keys.
use Rattle.std.specs.Prelude.{if◌then◌else◌}
use Rattle.std.proofs.Common.{◌≡◌, ℕ, Bool, true, false, ◌&&◌, nat_eq, filter_map, Option, None, Some, option_map, refl, ◌∙◌}
use Rattle.attr_value.specs.Tree.{Attributes}
use Rattle.row_keys.specs.declared.position.Position.{Position}
use Rattle.row_keys.specs.declared.row_key.RowKey.{RowKey}
use Rattle.row_keys.specs.Rows.{position}
use Rattle.cell_model.specs.declared.key.CellKey.{CellKey}
use Rattle.cell_model.specs.declared.key.CellKey.TheVariants.{Item, Row}
use Rattle.cell_model.specs.declared.catalog.CatalogTable.{CatalogTable}
use Rattle.cell_model.specs.declared.question.PageSource.{PageSource}
use Rattle.cell_model.specs.declared.question.PageSource.TheVariants as source
use Rattle.cell_model.specs.Pages.{CellRows, entry_in, item_in, source_rows}
use Rattle.cell_pages.specs.Walked.{IsWalked, row_under}
use Rattle.cell_pages.proofs.Picked.{picked_as}

abbrev as_row : RowKey × Attributes → Position × Attributes
as_row row = (position row.0 row.0, row.1)

abbrev with_item : Attributes → Option Position → Option (Position × Attributes)
with_item item at = option_map (λ p. (p, item)) at

abbrev item_at : RowKey → Attributes → Option (RowKey × Attributes)
item_at key item = Some (key, item)

abbrev row_at : Position → Attributes → Option (Position × Attributes)
row_at at item = Some (at, item)

own_under : (table : ℕ) (kept : CellKey × Attributes) → option_map as_row (item_in table kept) ≡ row_under table source.Table kept
own_under table (Row k, item) = refl
own_under table (Item k, item) = by (nat_eq k.table table)
  where
    by : (b : Bool) → option_map as_row (if b then item_at k.key item else None) ≡ with_item item (if b then Some (position k.key k.key) else None)
    by true = refl
    by false = refl

indexed_under : (table index : ℕ) (kept : CellKey × Attributes) → entry_in table index kept ≡ row_under table (source.Global index) kept
indexed_under table index (Item k, item) = refl
indexed_under table index (Row k, item) = by (nat_eq k.table table && nat_eq k.index index)
  where
    by : (b : Bool) → (if b then row_at k.at item else None) ≡ with_item item (if b then Some k.at else None)
    by true = refl
    by false = refl

pub source_under : (t : CatalogTable) (read : PageSource) → IsWalked read → (kept : CellRows) → source_rows t read kept ≡ filter_map (row_under t.number read) kept
source_under t source.Table walked kept =
    picked_as as_row (item_in t.number) kept ∙ (λ j. filter_map (λ x. own_under t.number x j) kept)
source_under t (source.Global index) walked kept = λ j. filter_map (λ x. indexed_under t.number index x j) kept
source_under t (source.Local place) walked kept = absurd walked
