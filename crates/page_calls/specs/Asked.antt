-- What is asked first for a page (API Reference: Query, Scan).
use Rattle.std.specs.Prelude.{◌≡◌, ℕ, suc, ◌-◌, Bool, true, Option, None, Some, Ok, slice_get}
use Rattle.item_keys.specs.Place as key
use Rattle.item_keys.specs.declared.key.Key.{Key}
use Rattle.key_condition.specs.KeyRange.{lies_in}
use Rattle.key_condition.specs.declared.key_range.KeyRange.{KeyRange}
use Rattle.row_keys.specs.Keys.{row_key}
use Rattle.row_keys.specs.declared.position.Position.{Position}
use Rattle.page_ranges.specs.Span.{is_inside}
use Rattle.table_schema.specs.declared.index.LocalIndex.{LocalIndex}
use Rattle.table_schema.specs.declared.index.GlobalIndex.{GlobalIndex}
use Rattle.table_request.specs.declared.request.Request.{Request}
use Rattle.table_request.specs.declared.request.Request.TheVariants as request
use Rattle.table_request.specs.declared.pages.PageRequest.{PageRequest}
use Rattle.table_request.specs.declared.pages.Query.{Query}
use Rattle.table_request.specs.declared.pages.Scan.{Scan}
use Rattle.table_model.specs.Pages.{Source, whole_table, local_index, global_index}
use Rattle.page_reads.specs.Starts.{HasRange, HasSegment, query_start, scan_start}
use Rattle.cell_model.specs.declared.answer.TableLook.{TableLook}
use Rattle.cell_model.specs.declared.question.PageSource.{PageSource}
use Rattle.cell_model.specs.declared.question.PageSource.TheVariants as read
use Rattle.cell_model.specs.declared.question.PageQuestion.{PageQuestion}
use Rattle.cell_model.specs.Keys.{cell_at}
use Rattle.cell_model.specs.Parts.{whole_room}

-- a request for a page
pub data PageAsked : Type 0 where
  a_scan : Scan → PageAsked
  a_query : Query → PageAsked

-- what both have in common
abbrev pub page_asked : PageAsked → PageRequest
page_asked (a_scan r) = r.page
page_asked (a_query r) = r.page

abbrev pub request_of : PageAsked → Request
request_of (a_scan r) = request.Scan r
request_of (a_query r) = request.Query r

-- ---- of which rows

module _ (look : TableLook) where
  -- this is the place of a local index among those that a Look told of
  pub record IsLocal (index : LocalIndex) (source : PageSource) : Type 0 where
    pub place : ℕ
    pub index_is : slice_get look.schema.locals place ≡ Some index
    pub is : source ≡ read.Local place

  -- this is the number that it told of a global index
  pub record IsGlobal (index : GlobalIndex) (source : PageSource) : Type 0 where
    pub place : ℕ
    pub index_is : slice_get look.schema.globals place ≡ Some index
    pub number : ℕ
    pub number_is : slice_get look.indexes place ≡ Some number
    pub is : source ≡ read.Global number

  -- this stands for what is read, by what a Look told of the table
  abbrev pub IsSourceOf : Source → PageSource → Type 0
  IsSourceOf whole_table source = source ≡ read.Table
  IsSourceOf (local_index index) source = IsLocal index source
  IsSourceOf (global_index index) source = IsGlobal index source

  -- this is asked of the rows of a source from behind a position on, or from the first, in this direction; of them the page may
  -- still take all that it may have
  pub record IsFirst (r : PageRequest) (source : Source) (forward : Bool) (start : Option Position) (first : PageQuestion) : Type 0 where
    pub table : first.table ≡ look.number
    pub source_is : IsSourceOf source first.source
    pub forward_is : first.forward ≡ forward
    pub after : first.after ≡ start
    pub room : first.room ≡ whole_room r.limit

-- ---- of which cells

-- a Scan begins in the cell of its start key, or in the first of all
abbrev pub first_cell : ℕ → Option Position → ℕ
first_cell n None = 0
first_cell n (Some at) = cell_at n at.read.place

-- the rows of a partition key are in one cell
abbrev pub query_cell : ℕ → KeyRange → ℕ
query_cell n range = cell_at n (key.place_of range.partition)

-- this is asked first for a Scan of a source, which goes on up to the last cell
pub record BeginsScan (n : ℕ) (look : TableLook) (r : Scan) (source : Source) (first : PageQuestion) (behind : ℕ) : Type 0 where
  pub start : Option Position
  pub starts : scan_start look.schema r source ≡ Ok start
  pub is_first : IsFirst look r.page source true start first
  pub segment : HasSegment r.segment first.span
  pub cell : first.cell ≡ first_cell n start
  pub behind_is : behind ≡ n - suc first.cell

-- this is asked for a Query of a source, and of no other cell
pub record BeginsQuery (n : ℕ) (look : TableLook) (r : Query) (source : Source) (first : PageQuestion) (behind : ℕ) : Type 0 where
  pub range : KeyRange
  pub start : Option Position
  pub starts : query_start look.schema r source ≡ Ok (record { range = range; start = start })
  pub truth : HasRange look.schema r source range
  pub is_first : IsFirst look r.page source r.forward start first
  pub inside : (key : Key) → is_inside first.span (row_key key) ≡ lies_in range key
  pub cell : first.cell ≡ query_cell n range
  pub behind_is : behind ≡ 0

-- this is asked first for a page of a source, which may go on to so many cells behind
abbrev pub Begins : ℕ → TableLook → PageAsked → Source → PageQuestion → ℕ → Type 0
Begins n look (a_scan r) source first behind = BeginsScan n look r source first behind
Begins n look (a_query r) source first behind = BeginsQuery n look r source first behind
