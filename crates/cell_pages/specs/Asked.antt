-- The rows that a page is asked for, and those that it takes of some that are left.
use Rattle.std.specs.Prelude.{Bool, true, ◌&&◌, List, ◌∷◌, map, filter, reverse, Option, None, Some, if◌then◌else◌}
use Rattle.std.specs.Ordering.{is_lt}
use Rattle.attr_value.specs.Tree.{Attributes}
use Rattle.row_keys.specs.declared.position.Position.{Position}
use Rattle.row_keys.specs.Keys.{position_order}
use Rattle.row_keys.specs.Rows.{Entries}
use Rattle.paging.specs.Rows.{walk_order, rows_after}
use Rattle.page_ranges.specs.Span.{is_inside}
use Rattle.cell_model.specs.declared.catalog.CatalogTable.{CatalogTable}
use Rattle.cell_model.specs.declared.question.PageRoom.{PageRoom}
use Rattle.cell_model.specs.declared.question.PageQuestion.{PageQuestion}
use Rattle.cell_model.specs.declared.answer.PageRow.{PageRow}
use Rattle.cell_model.specs.declared.answer.CatalogAnswer.{CatalogAnswer}
use Rattle.cell_model.specs.Pages.{CellRows, rows_in, taken, room_behind, part_of}

-- a walk in this direction meets the position after the place where it was
abbrev pub is_behind : Bool → Option Position → Position → Bool
is_behind forward None at = true
is_behind forward (Some place) at = is_lt (walk_order position_order forward place at)

-- a page is asked for the row at the position
abbrev pub is_asked : PageQuestion → Position → Bool
is_asked page at = is_inside page.span at.read && is_behind page.forward page.after at

abbrev pub entry_of : PageRow → Position × Attributes
entry_of row = (row.at, row.item)

-- what a page takes of the rows that are left, from the last one on
abbrev pub left : PageQuestion → PageRoom → List PageRow → Entries
left page room rows = taken room (filter (λ entry. is_asked page entry.0) (map entry_of (reverse rows)))

-- the same, where this row comes before them
abbrev pub left_with : PageQuestion → PageRoom → PageRow → List PageRow → Entries
left_with page room row rows = if is_asked page row.at then entry_of row ∷ left page (room_behind room row.item) rows else left page room rows

-- the page of these rows, which are in order
abbrev pub part_of_rows : PageQuestion → Entries → CatalogAnswer
part_of_rows page entries =
    part_of page.room
    (taken page.room (rows_after position_order page.forward page.after (filter (λ entry. is_inside page.span entry.0.read) entries)))

-- a page of the rows of a table that may not be there
abbrev pub part_in : Option CatalogTable → CellRows → PageQuestion → CatalogAnswer
part_in table rows page = part_of_rows page (rows_in table page.source rows)
