-- How these tables stand to the sequential database, one definition a law.
use Rattle.std.specs.Prelude.{◌≡◌, ℕ, suc, ◌+◌, false, List, [], ◌∷◌, ◌++◌, length, Option, None, Some}
use Rattle.std.specs.BTreeMap.{insert_entry}
use Rattle.attr_value.specs.Tree.{Attributes}
use Rattle.index_feed.specs.declared.change.Row.{Row as FeedRow}
use Rattle.paging.specs.declared.page.Judged.{Judged}
use Rattle.paging.specs.Page.{IsPage}
use Rattle.paging.specs.Room.{Room, room_after as room_of_rows}
use Rattle.table_schema.specs.declared.index.GlobalIndex.{GlobalIndex}
use Rattle.table_schema.specs.declared.schema.Schema.{Schema}
use Rattle.table_request.specs.declared.items.PutItem.{PutItem}
use Rattle.table_request.specs.declared.items.UpdateItem.{UpdateItem}
use Rattle.table_request.specs.declared.items.DeleteItem.{DeleteItem}
use Rattle.table_request.specs.declared.transactions.TransactAction.{TransactAction}
use Rattle.row_keys.specs.declared.position.Position.{Position}
use Rattle.row_keys.specs.Keys.{position_order}
use Rattle.row_keys.specs.Rows.{Rows, Entries, global_entries}
use Rattle.txn_core.specs.declared.answer.Answer.{Answer}
use Rattle.txn_core.specs.Feeding.{rows_for}
use Rattle.txn_core.specs.Legal.{page_after, state}
use Rattle.txn_core.specs.Service.{History}
use Rattle.table_model.specs.Outcome.{is_met, where_met, put_outcome, update_outcome, delete_outcome}
use Rattle.table_model.specs.Transactions as database
use Rattle.cell_model.specs.declared.key.CellKey.{CellKey}
use Rattle.cell_model.specs.declared.catalog.CatalogTable.{CatalogTable}
use Rattle.cell_model.specs.declared.question.PageRoom.{PageRoom}
use Rattle.cell_model.specs.declared.question.PageQuestion.{PageQuestion}
use Rattle.cell_model.specs.declared.question.CatalogQuestion.TheVariants.{Page}
use Rattle.cell_model.specs.declared.answer.CatalogAnswer.{CatalogAnswer}
use Rattle.cell_model.specs.Actions.{stated_action, stated_put, stated_update, stated_delete, action_outcome}
use Rattle.cell_model.specs.Catalogs.{numbered_indexes, index_at}
use Rattle.cell_model.specs.IndexRows.{row_if}
use Rattle.cell_model.specs.Pages.{is_over, taken, room_after, entry_in, page_cell, page_index}
use Rattle.cell_model.specs.Parts.{whole_room, PagePart, IsPart, AreParts, rows_asked, rows_told, has_ended, HasSizes, judged_by, IsOnePage}
use Rattle.cell_model.specs.Service.{service}

-- an action makes of its item what it does in the sequential database: that of a transaction, and that of a request on one
-- item, also of an update without an expression
pub record ActAsTheDatabase : Type 0 where
  pub transacts :
      (schema : Schema) (key : CellKey) (action : TransactAction) (old : Option Attributes)
      → action_outcome schema (stated_action key action) old ≡ database.action_outcome schema action old
  pub puts :
      (schema : Schema) (key : CellKey) (r : PutItem) (old : Option Attributes)
      → action_outcome schema (stated_put key r) old ≡ where_met (is_met r.condition r.values old) (put_outcome schema r.item)
  pub updates :
      (schema : Schema) (key : CellKey) (r : UpdateItem) (old : Option Attributes)
      → action_outcome schema (stated_update key r) old
      ≡ where_met (is_met r.condition r.values old) (update_outcome schema r.update r.values r.key old)
  pub deletes :
      (schema : Schema) (key : CellKey) (r : DeleteItem) (old : Option Attributes)
      → action_outcome schema (stated_delete key r) old ≡ where_met (is_met r.condition r.values old) delete_outcome

-- ---- index rows

-- the rows of an index with one more, where there is one
abbrev pub with_entry : Option (Position × Attributes) → Entries → Entries
with_entry None entries = entries
with_entry (Some entry) entries = insert_entry position_order entries entry.0 entry.1

abbrev pub with_row : ℕ → ℕ → Option (FeedRow CellKey Attributes) → Entries → Entries
with_row table index None entries = entries
with_row table index (Some row) entries = with_entry (entry_in table index (row.key, row.content)) entries

-- the rows that these items have in an index, in its order
abbrev pub rows_made : CatalogTable → ℕ → Rows → Entries
rows_made table index [] = []
rows_made table index (row ∷ rows) =
    with_row table.number index (row_if (Some table) (record { table = table.number; key = row.0 }) index row.1) (rows_made table index rows)

-- they are the rows of the index in the sequential database
abbrev pub RowsAreTheDatabases : Type 0
RowsAreTheDatabases =
    (table : CatalogTable) (number : ℕ) (index : GlobalIndex) (rows : Rows) → index_at number (numbered_indexes table) ≡ Some index
    → rows_made table number rows ≡ global_entries table.schema index rows

-- ---- pages

abbrev pub as_room : PageRoom → Room
as_room room = record { rows = room.rows; bytes = room.bytes }

-- with the rows that it had before, those that a page takes are its page of them and of all that follow
abbrev pub TakesItsPage : Type 0
TakesItsPage =
    (judge : Attributes → Judged) → HasSizes judge → (limit : Option ℕ) (before : List Judged) (room : PageRoom) (rows : Entries)
    → as_room room ≡ room_of_rows limit before → is_over room ≡ false
    → IsPage limit (before ++ judged_by judge rows) (length before + length (taken room rows))

-- and what it may still take is what they leave
abbrev pub TellsItsRoom : Type 0
TellsItsRoom =
    (judge : Attributes → Judged) → HasSizes judge → (limit : Option ℕ) (before : List Judged) (room : PageRoom) (rows : Entries)
    → as_room room ≡ room_of_rows limit before
    → as_room (room_after room (taken room rows)) ≡ room_of_rows limit (before ++ judged_by judge (taken room rows))

-- the parts of several cells, each asked with the room that was left, up to the first with which the page has ended, are one page
abbrev pub PartsAreOnePage : Type 0
PartsAreOnePage =
    (judge : Attributes → Judged) → HasSizes judge → (limit : Option ℕ) (many : ℕ) (page : PageQuestion) (parts : List PagePart)
    → page.room ≡ whole_room limit → AreParts (suc many) page parts
    → IsOnePage judge limit (rows_asked parts) (rows_told parts) (has_ended parts)

-- a page that is told so after some entries, the newest first: of the tables and the rows that are there then
abbrev pub part_after : (n : ℕ) → History (service n) → PageQuestion → CatalogAnswer → PagePart
part_after n es page told = record {
  question = page;
  catalog = (state (service n) es).catalog;
  rows = rows_for (service n) es (page_cell n (Page page)) (page_index (Page page));
  told = told;
}

-- what cells answer to a page are its parts
abbrev pub CellsTellParts : Type 0
CellsTellParts =
    (n : ℕ) (es : History (service n)) (page : PageQuestion) (told : CatalogAnswer)
    → Answer.Part told ≡ page_after (service n) es (Page page) → IsPart page (part_after n es page told)
