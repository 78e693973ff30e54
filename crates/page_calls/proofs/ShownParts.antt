-- What was there for a part of a page of a table, or of a local index, is what readers are shown in its cell.
use Rattle.std.specs.Prelude.{slice_get}
use Rattle.std.proofs.Common.{◌≡◌, ℕ, ◌%◌, cond, nat_eq, List, None, Some, filter, reverse, refl, sym, ap, subst, ◌∙◌}
use Rattle.txn_core.specs.Feeding.{rows_for}
use Rattle.txn_core.specs.Legal.{IsLegal}
use Rattle.txn_core.specs.Laws.{catalog_by, shown_by}
use Rattle.txn_core.proofs.Exports.{table_pages_are_shown}
use Rattle.row_keys.specs.declared.row_key.RowKey.{RowKey}
use Rattle.row_keys.specs.Rows.{Entries, index_of, item_at}
use Rattle.table_schema.specs.declared.index.LocalIndex.{LocalIndex}
use Rattle.table_schema.specs.declared.schema.Schema.{Schema}
use Rattle.table_model.specs.Database.{Database, Table, table_named}
use Rattle.table_model.specs.Pages.{Source, whole_table, local_index, global_index, source_entries}
use Rattle.cell_model.specs.declared.answer.TableLook.{TableLook}
use Rattle.cell_model.specs.declared.catalog.CatalogTable.{CatalogTable}
use Rattle.cell_model.specs.declared.question.PageSource.{PageSource}
use Rattle.cell_model.specs.declared.question.PageSource.TheVariants as read
use Rattle.cell_model.specs.Catalogs.{named, numbered}
use Rattle.cell_model.specs.Keys.{cell_at}
use Rattle.cell_model.specs.Laws.{part_after}
use Rattle.cell_model.specs.Pages.{CellRows, index_number, items_of, local_rows, rows_in, source_rows}
use Rattle.cell_model.specs.Parts.{PagePart}
use Rattle.cell_model.specs.Service.{service}
use Rattle.cell_model.proofs.Lawful.{service_lawful}
use Rattle.table_history.specs.Entries.{TableEvent}
use Rattle.table_history.specs.SameTable.{IsOfThatTable}
use Rattle.table_history.specs.Standing.{HasShown, IsTableOf}
use Rattle.table_history.proofs.Named.{found_named}
use Rattle.page_calls.specs.Asked.{IsSourceOf}
use Rattle.page_calls.specs.Pages.{asked_among, is_in_cell, ShowsRows}
use Rattle.page_calls.proofs.Shown.{entries_are, index_entries_are, item_found, items_rise}

some_same : (x y : Table) → Some x ≡ Some y → x ≡ y
some_same x y is = cc

module _ (n : ℕ) (log : List TableEvent) (legal : IsLegal (service n) (reverse log)) (t : CatalogTable) (i : ℕ) where
  abbrev es : List TableEvent
  es = reverse log

  abbrev rows : CellRows
  rows = rows_for (service n) es i None

  -- the table as a database has it
  module _ (table : Table) (that : IsTableOf (shown_by (service n) es) t (t.schema.name, table)) where
    found : (key : RowKey) → item_at (items_of t.number rows) key ≡ cond (nat_eq (cell_at n key.place) i) (item_at table.rows key) None
    found key =
        item_found n i (shown_by (service n) es) rows (table_pages_are_shown (service n) (service_lawful n) es legal i) t.number key
        ∙ ap (λ o. cond (nat_eq (cell_at n key.place) i) o None) (sym (that.rows key))

    abbrev HasEntries : PageSource → Source → Type 0
    HasEntries from source = source_rows t from rows ≡ filter (is_in_cell n i) (source_entries table source)

    whole : HasEntries read.Table whole_table
    whole =
        entries_are n i table.rows (items_of t.number rows) that.ordered
        (items_rise n i (shown_by (service n) es) rows (table_pages_are_shown (service n) (service_lawful n) es legal i) t.number) found

    local : (place : ℕ) (index : LocalIndex) → slice_get t.schema.locals place ≡ Some index → HasEntries (read.Local place) (local_index index)
    local place index is =
        ap (λ o. local_rows t.schema o (items_of t.number rows)) is
        ∙ index_entries_are n i table.rows (items_of t.number rows) that.ordered
        (items_rise n i (shown_by (service n) es) rows (table_pages_are_shown (service n) (service_lawful n) es legal i) t.number) found t.schema index.keys
        ∙ ap (λ (schema : Schema). filter (is_in_cell n i) (index_of schema index.keys table.rows)) (sym that.schema)

module _ (n : ℕ) (log : List TableEvent) (legal : IsLegal (service n) (reverse log)) (part : PagePart) (own : part ≡ part_after n (reverse log) part.question part.told)
    (name : List ℕ) (t : CatalogTable) (named_so : named (catalog_by (service n) (reverse log)).tables name ≡ Some t)
    (there : numbered part.catalog.tables part.question.table ≡ Some t) where
  abbrev cell : ℕ
  cell = part.question.cell % n

  kept : (from : PageSource) → part.question.source ≡ from → index_number from ≡ None → part.rows ≡ rows_for (service n) (reverse log) cell None
  kept from is none =
      ap (λ (x : PagePart). x.rows) own ∙ ap (λ o. rows_for (service n) (reverse log) cell o) (ap index_number is ∙ none)

  table_is : (db : Database) → HasShown n log db → (table : Table) → table_named db name ≡ Some table → IsTableOf (shown_by (service n) (reverse log)) t (t.schema.name, table)
  table_is db stands table at =
      let found = found_named (shown_by (service n) (reverse log)) (catalog_by (service n) (reverse log)).tables db.tables stands name t named_so in
      subst (λ (x : Table). IsTableOf (shown_by (service n) (reverse log)) t (t.schema.name, x)) (some_same found.table table (sym found.is ∙ at)) found.that

  asked_from : (from : PageSource) → part.question.source ≡ from → index_number from ≡ None → (entries : Entries)
      → source_rows t from (rows_for (service n) (reverse log) cell None) ≡ entries
      → asked_among part.question (rows_in (numbered part.catalog.tables part.question.table) part.question.source part.rows) ≡ asked_among part.question entries
  asked_from from is none entries are =
      ap (asked_among part.question) ((λ j. rows_in (there j) (is j) (kept from is none j)) ∙ are)

  pub shows_rows : (look : TableLook) → IsOfThatTable look.schema t.schema → (source : Source) → IsSourceOf look source part.question.source → ShowsRows n name source log part
  shows_rows look that whole_table is = λ db stands table at.
      asked_from read.Table is refl (filter (is_in_cell n cell) (source_entries table whole_table))
      (whole n log legal t cell table (table_is db stands table at))
  shows_rows look that (local_index index) is = λ db stands table at.
      asked_from (read.Local is.place) is.is refl (filter (is_in_cell n cell) (source_entries table (local_index index)))
      (local n log legal t cell table (table_is db stands table at) is.place index (ap (λ locals. slice_get locals is.place) that.locals ∙ is.index_is))
  shows_rows look that (global_index index) is = tt
