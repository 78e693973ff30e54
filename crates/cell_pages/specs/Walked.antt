-- The rows of an ordered map that a page is asked for, and between which keys they are.
use Rattle.std.specs.Prelude.{◌≡◌, ℕ, Bool, true, false, ◌&&◌, nat_eq, List, Option, None, Some, option_map, if◌then◌else◌}
use Rattle.std.specs.List.{filter_map}
use Rattle.std.specs.Ordering.{is_gt, is_le}
use Rattle.std.specs.declared.cmp.Ordering.{Ordering}
use Rattle.std.specs.declared.ops.Bound.{Bound}
use Rattle.std.specs.declared.ops.Bound.TheVariants.{Included, Unbounded}
use Rattle.attr_value.specs.Tree.{Attributes}
use Rattle.row_keys.specs.declared.position.Position.{Position}
use Rattle.row_keys.specs.Keys.{position_order}
use Rattle.row_keys.specs.Rows.{position}
use Rattle.paging.specs.Rows.{in_direction}
use Rattle.cell_model.specs.declared.key.CellKey.{CellKey}
use Rattle.cell_model.specs.declared.key.CellKey.TheVariants.{Item, Row}
use Rattle.cell_model.specs.declared.question.PageSource.{PageSource}
use Rattle.cell_model.specs.declared.question.PageSource.TheVariants as source
use Rattle.cell_model.specs.declared.question.PageQuestion.{PageQuestion}
use Rattle.cell_model.specs.declared.answer.CatalogAnswer.{CatalogAnswer}
use Rattle.cell_model.specs.Pages.{CellRows, part_of, taken}
use Rattle.cell_pages.specs.Asked.{is_asked}

-- ---- rows

-- what is read is the table's own rows, or a global index
abbrev pub IsWalked : PageSource → Type 0
IsWalked source.Table = Unit {0}
IsWalked (source.Global index) = Unit {0}
IsWalked (source.Local place) = ⊥

-- where a row of the source stands that is kept under a key: an item of the table, or a row of the global index
abbrev pub position_under : ℕ → PageSource → CellKey → Option Position
position_under table source.Table (Item key) = if nat_eq key.table table then Some (position key.key key.key) else None
position_under table (source.Global index) (Row key) = if nat_eq key.table table && nat_eq key.index index then Some key.at else None
position_under table _ _ = None

-- the row of a source that is kept under a key, where it is one
abbrev pub row_under : ℕ → PageSource → CellKey × Attributes → Option (Position × Attributes)
row_under table read kept = option_map (λ at. (at, kept.1)) (position_under table read kept.0)

-- where it stands, where the page is asked for the row there
abbrev pub asked_if : PageQuestion → Option Position → Option Position
asked_if page None = None
asked_if page (Some at) = if is_asked page at then Some at else None

-- the row of a source under a key, where an item is shown there and the page is asked for it
abbrev pub picked_of : PageSource → ℕ → PageQuestion → CellKey → Option Attributes → Option (Position × Attributes)
picked_of read table page key None = None
picked_of read table page key (Some item) = option_map (λ at. (at, item)) (asked_if page (position_under table read key))

-- the same of the source that the page reads
abbrev pub picked : ℕ → PageQuestion → CellKey → Option Attributes → Option (Position × Attributes)
picked table page key item = picked_of page.source table page key item

module _ {W : Type 0} (shown : W → Option Attributes) where
  -- what a map shows, under its keys
  abbrev pub shown_among : List (CellKey × W) → CellRows
  shown_among entries = filter_map (λ e. option_map (λ item. (e.0, item)) (shown e.1)) entries

  -- the row that an entry of the map stands for, where the page is asked for it
  abbrev pub row_met : ℕ → PageQuestion → CellKey × W → Option (Position × Attributes)
  row_met table page entry = picked table page entry.0 (shown entry.1)

-- the page of a walk along entries, each of which stands for one row or for none
abbrev pub page_along : {E : Type 0} → (E → Option (Position × Attributes)) → PageQuestion → List E → CatalogAnswer
page_along row page entries = part_of page.room (taken page.room (filter_map row (in_direction page.forward entries)))

-- ---- ends

-- a position is at an end or behind it; at an end or before it; an end that is absent is open
abbrev pub is_from : Option Position → Position → Bool
is_from None at = true
is_from (Some end) at = is_le (position_order end at)

abbrev pub is_up_to : Option Position → Position → Bool
is_up_to None at = true
is_up_to (Some end) at = is_le (position_order at end)

-- all rows that the page is asked for stand between these ends
abbrev pub Surround : PageQuestion → Option Position → Option Position → Type 0
Surround page low high = (at : Position) → is_asked page at ≡ true → (is_from low at ≡ true) × (is_up_to high at ≡ true)

-- the key under which a row at a position is kept
abbrev pub key_at : ℕ → PageSource → Position → CellKey
key_at table (source.Global index) at = Row (record { table = table; index = index; at = at })
key_at table _ at = Item (record { table = table; key = at.read })

-- from a key on, or up to it, the key included; or open
abbrev pub included : {K : Type 0} → Option K → Bound K
included None = Unbounded
included (Some key) = Included key

-- the low end is above the high one
abbrev pub is_reversed : {K : Type 0} → (K → K → Ordering) → Option K → Option K → Bool
is_reversed cmp (Some low) (Some high) = is_gt (cmp low high)
is_reversed cmp _ _ = false
