-- The rows of a range, and the page of them.
use Rattle.std.specs.Prelude.{◌≡◌, ℕ, Bool, filter, ⊤, Option, Some}
use Rattle.std.specs.Option.{option_copied}
use Rattle.paging.specs.Rows.{rows_after}
use Rattle.row_keys.specs.declared.position.Position.{Position}
use Rattle.row_keys.specs.Keys.{position_order}
use Rattle.row_keys.specs.Rows.{Entries}
use Rattle.page_ranges.specs.declared.span.Span.{Span}
use Rattle.page_ranges.specs.declared.positions.PositionSpan.{PositionSpan}
use Rattle.page_ranges.specs.Span.{is_inside, stands_inside}
use Rattle.table_model.specs.Database.{Table}
use Rattle.table_model.specs.Pages.{Source, whole_table, source_entries}
use Rattle.table_items.specs.Effects.{table_at}
use Rattle.page_reads.specs.declared.page.Filled.{Filled}
use Rattle.page_reads.specs.Filled.{IsFilled}
use Rattle.table_pages.specs.declared.page.Reading.{Reading}

-- the rows at keys in a range, as a page meets them that begins behind a position
abbrev pub rows_in : Table → Source → Span → Bool → Option Position → Entries
rows_in table source span forward start =
    rows_after position_order forward start (filter (λ entry. is_inside span entry.0.read) (source_entries table source))

-- the same of positions
abbrev pub positions_in : Table → Source → PositionSpan → Bool → Option Position → Entries
positions_in table source ends forward start =
    rows_after position_order forward start (filter (λ entry. stands_inside ends entry.0) (source_entries table source))

-- a position of a table has its key twice
abbrev pub IsStart : Source → Option Position → Type 0
IsStart whole_table (Some at) = at.read ≡ at.item
IsStart source start = ⊤

-- ---- what inner steps say

-- the page is that of the rows that are read at keys in a range, whatever the table's number
abbrev pub IsPageIn : Reading → Source → Span → Filled → Type 0
IsPageIn reading source span filled =
    (number : ℕ) → IsFilled reading.rows.now.schema source reading.request.now
    (rows_in (table_at number reading.rows.now) source span reading.forward (option_copied reading.start)) filled

-- the same at positions in a range
abbrev pub IsPageBetween : Reading → Source → PositionSpan → Filled → Type 0
IsPageBetween reading source ends filled =
    (number : ℕ) → IsFilled reading.rows.now.schema source reading.request.now
    (positions_in (table_at number reading.rows.now) source ends reading.forward (option_copied reading.start)) filled
