-- A page as it is filled.
use Rattle.std.specs.Prelude.{Bool, if◌then◌else◌, None, length, option_map, ◌≡◌, ℕ, List, [], ◌∷◌, ◌++◌, map, take}
use Rattle.attr_value.specs.Tree.{Attributes}
use Rattle.paging.specs.Page.{IsPage}
use Rattle.paging.specs.Room.{Room, room_after}
use Rattle.row_keys.specs.declared.position.Position.{Position}
use Rattle.row_keys.specs.Rows.{Entries}
use Rattle.table_request.specs.declared.pages.PageRequest.{PageRequest}
use Rattle.table_schema.specs.declared.schema.Schema.{Schema}
use Rattle.item_keys.specs.Row.{only}
use Rattle.table_model.specs.Pages.{is_start_name, last_of, page_items, shown_rows, Source, judged, page_of, bytes_read}
use Rattle.page_reads.specs.declared.page.Filled.{Filled}
use Rattle.page_reads.specs.declared.row.Sight.{Sight}
use Rattle.page_reads.specs.declared.row.Seen.{Seen}
use Rattle.page_reads.specs.declared.row.Seen.TheVariants.{Whole, Kept}
use Rattle.page_reads.specs.Sources.{source_in, seen}

-- the attributes of a row that are seen
abbrev pub item_of : Seen → Attributes
item_of (Whole item) = item.now
item_of (Kept item) = item

-- a row of a walk as an entry, at a position
abbrev pub entry_seen : {K : Type 0} → (K → Position) → Schema → Source → K × Attributes → Position × Attributes
entry_seen place schema source row = (place row.0, seen schema source row.1)

-- the page of these rows, and their bytes
abbrev pub filled_of : Schema → Source → PageRequest → Entries → Filled
filled_of schema source r rows = record { page = page_of schema source r rows; bytes = bytes_read rows }

-- the same, told that it is full, or that it is not
abbrev pub filled_as : Bool → Schema → Source → PageRequest → Entries → Filled
filled_as full schema source r rows = record {
  page = record {
    count = length (shown_rows r rows);
    scanned = length rows;
    items = page_items schema source r rows;
    last = if full then option_map (only (is_start_name schema source)) (last_of rows) else None;
  };
  bytes = bytes_read rows;
}

-- the page was told of these rows, and has room for so many more
pub record IsFilling (schema : Schema) (source : Source) (r : PageRequest) (rows : Entries) (room : Room) (filled : Filled) : Type 0 where
  pub room_is : room ≡ room_after r.limit (map (λ entry. judged r entry.1) rows)
  pub page_is : filled ≡ filled_of schema source r rows

-- the page is that of these rows
pub record IsFilled (schema : Schema) (source : Source) (r : PageRequest) (rows : Entries) (filled : Filled) : Type 0 where
  pub count : ℕ
  pub is_page : IsPage r.limit (map (λ entry. judged r entry.1) rows) count
  pub page_is : filled ≡ filled_of schema source r (take count rows)

-- ---- what inner steps say

-- from what a page was told it goes on to the same with this item
abbrev pub IsAdded : Sight → Attributes → Room → Filled → Room → Filled → Type 0
IsAdded sight item old_room old new_room new =
    (rows : Entries) (at : Position) → IsFilling sight.schema.now (source_in sight.source) sight.page.now rows old_room old
    → IsFilling sight.schema.now (source_in sight.source) sight.page.now (rows ++ (at, seen sight.schema.now (source_in sight.source) item) ∷ [])
    new_room new

-- the same with a row that is seen so, with which it is told to be full or not, whatever it was told before
abbrev pub IsSeen : Sight → Attributes → Bool → Filled → Filled → Type 0
IsSeen sight item full old new =
    (was : Bool) (rows : Entries) (at : Position) → old ≡ filled_as was sight.schema.now (source_in sight.source) sight.page.now rows
    → new ≡ filled_as full sight.schema.now (source_in sight.source) sight.page.now (rows ++ (at, item) ∷ [])

-- the page is that of the rows of a walk, at whatever positions they stand
abbrev pub FillsPage : {K : Type 0} → Sight → List (K × Attributes) → Filled → Type 0
FillsPage {K} sight rows filled =
    (place : K → Position) → IsFilled sight.schema.now (source_in sight.source) sight.page.now
    (map (entry_seen place sight.schema.now (source_in sight.source)) rows) filled
