-- A page that goes from cell to cell (API Reference: Query, Scan).
use Rattle.std.specs.Prelude.{◌≡◌, ℕ, zero, suc, ◌+◌, Bool, true, false, List, [], ◌∷◌, ◌++◌, map, take, Option}
use Rattle.std.specs.List.{list_any}
use Rattle.attr_value.specs.Tree.{Attributes}
use Rattle.attr_value.specs.Sizes.{item_size}
use Rattle.paging.specs.declared.page.Judged.{Judged}
use Rattle.paging.specs.Page.{page_bytes, is_full, IsPage}
use Rattle.row_keys.specs.Rows.{Entries}
use Rattle.cell_model.specs.declared.catalog.Catalog.{Catalog}
use Rattle.cell_model.specs.declared.question.PageRoom.{PageRoom}
use Rattle.cell_model.specs.declared.question.PageQuestion.{PageQuestion}
use Rattle.cell_model.specs.declared.answer.PageRow.{PageRow}
use Rattle.cell_model.specs.declared.answer.CatalogAnswer.{CatalogAnswer}
use Rattle.cell_model.specs.declared.answer.CatalogAnswer.TheVariants as answer
use Rattle.cell_model.specs.Pages.{CellRows, asked_rows, page_row, page_part}

-- ---- from cell to cell

-- what a page may take that has no row yet
abbrev pub whole_room : Option ℕ → PageRoom
whole_room limit = record { rows = limit; bytes = page_bytes + 1 }

-- the same page asked of the next cell, with so much of it left
abbrev pub next_page : PageQuestion → PageRoom → PageQuestion
next_page page room = record {
  cell = page.cell + 1;
  table = page.table;
  source = page.source;
  span = page.span;
  forward = page.forward;
  after = page.after;
  room = room;
}

-- a part of a page: what was asked of a cell, the tables and the rows that were there then, and what was told
pub record PagePart : Type 0 where
  pub question : PageQuestion
  pub catalog : Catalog
  pub rows : CellRows
  pub told : CatalogAnswer

-- the part of this page that the cell has
pub record IsPart (page : PageQuestion) (part : PagePart) : Type 0 where
  pub asked : part.question ≡ page
  pub told : part.told ≡ page_part part.catalog part.rows page

-- behind a part with which the page has ended nothing is asked, behind another one what the room that it told allows
abbrev pub GoesOn : CatalogAnswer → Type 0 → (PageRoom → Type 0) → Type 0
GoesOn (answer.Part rows room true) nothing more = nothing
GoesOn (answer.Part rows room false) nothing more = more room
GoesOn told nothing more = ⊥

-- the parts of a page from its cell on, of so many cells or up to the first with which it has ended; each is asked with the room
-- that the one before left
abbrev pub AreParts : ℕ → PageQuestion → List PagePart → Type 0
AreParts zero page parts = parts ≡ []
AreParts (suc many) page [] = ⊥
AreParts (suc many) page (part ∷ parts) =
    IsPart page part × GoesOn part.told (parts ≡ []) (λ room. AreParts many (next_page page room) parts)

-- ---- what they are together

-- the rows that were there for the page, in all cells that were asked
abbrev pub rows_asked : List PagePart → Entries
rows_asked [] = []
rows_asked (part ∷ parts) = asked_rows part.catalog part.question part.rows ++ rows_asked parts

-- the rows that were told
abbrev pub rows_of : CatalogAnswer → List PageRow
rows_of (answer.Part rows room stopped) = rows
rows_of told = []

abbrev pub rows_told : List PagePart → List PageRow
rows_told [] = []
rows_told (part ∷ parts) = rows_of part.told ++ rows_told parts

-- the page has ended with some part
abbrev pub is_ended : CatalogAnswer → Bool
is_ended (answer.Part rows room stopped) = stopped
is_ended told = false

abbrev pub has_ended : List PagePart → Bool
has_ended parts = list_any (λ part. is_ended part.told) parts

-- a judge of rows goes by the sizes of their items; its filter says which rows are shown, and not which fill the page
abbrev pub HasSizes : (Attributes → Judged) → Type 0
HasSizes judge = (item : Attributes) → (judge item).size ≡ item_size item

abbrev pub judged_by : (Attributes → Judged) → Entries → List Judged
judged_by judge rows = map (λ row. judge row.1) rows

-- the first of these rows are their page, and are those that were told; where it is told to have ended they fill it
pub record IsOnePage (judge : Attributes → Judged) (limit : Option ℕ) (asked : Entries) (told : List PageRow) (ended : Bool)
    : Type 0 where
  pub count : ℕ
  pub is_page : IsPage limit (judged_by judge asked) count
  pub told_is : told ≡ map page_row (take count asked)
  pub ended_is : ended ≡ is_full limit (judged_by judge (take count asked))
