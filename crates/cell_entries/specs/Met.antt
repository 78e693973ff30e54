-- The rows of a local index that a page meets: an entry has the place of a row, and names its item.
use Rattle.std.specs.Prelude.{◌≡◌, ℕ, true, ◌&&◌, nat_eq, List, [], Option, None, Some, option_and_then, option_map, if◌then◌else◌}
use Rattle.std.specs.BTreeMap.{BTreeMap, get}
use Rattle.std.specs.BTreeMap.Range.{range_contains}
use Rattle.attr_value.specs.Tree.{Attributes}
use Rattle.row_keys.specs.declared.position.Position.{Position}
use Rattle.row_keys.specs.declared.row_key.RowKey.{RowKey}
use Rattle.local_index.specs.declared.claim.Claim.{Claim}
use Rattle.local_index.specs.Claims.{is_committed}
use Rattle.local_index.specs.Entries.{is_among}
use Rattle.cell_model.specs.declared.key.CellKey.{CellKey}
use Rattle.cell_model.specs.declared.key.CellKey.TheVariants.{Item}
use Rattle.cell_model.specs.declared.answer.CatalogAnswer.{CatalogAnswer}
use Rattle.cell_model.specs.declared.catalog.Catalog.{Catalog}
use Rattle.cell_model.specs.declared.catalog.CatalogTable.{CatalogTable}
use Rattle.cell_model.specs.declared.question.PageQuestion.{PageQuestion}
use Rattle.cell_model.specs.declared.question.PageSource.TheVariants.{Local}
use Rattle.cell_model.specs.Catalogs.{numbered}
use Rattle.cell_model.specs.Keys.{key_order}
use Rattle.cell_model.specs.Pages.{source_rows}
use Rattle.cell_entries.specs.declared.entry.LocalEntry.{LocalEntry}
use Rattle.cell_entries.specs.LocalEntries.{entries_of, entry_order, item_of_entry}
use Rattle.cell_pages.specs.Asked.{is_asked, part_of_rows}
use Rattle.cell_pages.specs.Walked.{asked_if, included, shown_among}

-- where a row of the local index at a place among the table's stands, if an entry is one of that index
abbrev pub position_of : ℕ → ℕ → LocalEntry → Option Position
position_of table place e = if nat_eq e.table table && nat_eq e.index place then Some e.at else None

-- the entry of that index at a position
abbrev pub entry_in : ℕ → ℕ → Position → LocalEntry
entry_in table place at = record { table = table; index = place; at = at }

-- the rows that the page is asked for stand at entries between these ends
abbrev pub Enclose : ℕ → ℕ → PageQuestion → Option LocalEntry → Option LocalEntry → Type 0
Enclose table place page low high =
    (at : Position) → is_asked page at ≡ true
    → range_contains entry_order (included low) (included high) (entry_in table place at) ≡ true

-- an item's entries, where it is there
abbrev pub entries_if : Catalog → CellKey → Option Attributes → List LocalEntry
entries_if catalog key None = []
entries_if catalog key (Some item) = entries_of catalog key item

module _ (items : RowKey → Option Attributes) where
  -- the item that an entry at a position names, where the entry is a committed item's
  abbrev pub named_at : Position → Claim → Option Attributes
  named_at at claim = if is_committed (Some claim) then items at.item else None

  -- the row of an entry at a position, where there is one
  abbrev pub row_at : Claim → Option Position → Option (Position × Attributes)
  row_at claim None = None
  row_at claim (Some at) = option_map (λ item. (at, item)) (named_at at claim)

  -- the row that an entry stands for, where it is one of the index and the page is asked for the row
  abbrev pub row_met : ℕ → ℕ → PageQuestion → LocalEntry × Claim → Option (Position × Attributes)
  row_met table place page entry = row_at entry.1 (asked_if page (position_of table place entry.0))

module _ {W : Type 0} (shown : W → Option Attributes) where
  -- the item that a map shows under a key, and of a table under its own key
  abbrev pub item_under : BTreeMap CellKey W → CellKey → Option Attributes
  item_under items key = option_and_then shown (get key_order items key)

  abbrev pub item_in : BTreeMap CellKey W → ℕ → RowKey → Option Attributes
  item_in items table key = item_under items (Item (record { table = table; key = key }))

  -- the entries of committed items are exactly those of the items that are shown
  abbrev pub AreEntriesOf : Catalog → BTreeMap CellKey W → BTreeMap LocalEntry Claim → Type 0
  AreEntriesOf catalog items entries =
      (q : LocalEntry) → is_committed (get entry_order entries q)
      ≡ is_among entry_order (entries_if catalog (item_of_entry q) (item_under items (item_of_entry q))) q

  -- a page of the table's local index at this place, out of all items: in every catalog that has the table, where the entries are theirs
  abbrev pub IsLocalPart : CatalogTable → ℕ → BTreeMap CellKey W → BTreeMap LocalEntry Claim → PageQuestion → CatalogAnswer → Type 0
  IsLocalPart table place items entries page answer =
      (catalog : Catalog) → numbered catalog.tables table.number ≡ Some table → AreEntriesOf catalog items entries
      → answer ≡ part_of_rows page (source_rows table (Local place) (shown_among shown items.entries))
