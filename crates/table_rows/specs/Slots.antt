-- Slots: keys that have an item, or room for one.
use Rattle.std.specs.Prelude.{◌≡◌, List, [], ◌∷◌, Bool, false, Option, None, Some, is_some}
use Rattle.std.specs.Map.{lookup}
use Rattle.std.specs.BTreeMap.{is_at}
use Rattle.attr_value.specs.Tree.{Attributes}
use Rattle.row_keys.specs.declared.row_key.RowKey.{RowKey}
use Rattle.row_keys.specs.Keys.{row_order}
use Rattle.row_keys.specs.Rows.{Rows, item_at}
use Rattle.table_rows.specs.Found.{AllFound}

abbrev pub SlotList : Type 0
SlotList = List (RowKey × Option Attributes)

abbrev pub row_if : RowKey → Option Attributes → Rows → Rows
row_if key None rows = rows
row_if key (Some item) rows = (key, item) ∷ rows

-- the slots that have an item
abbrev pub rows_of : SlotList → Rows
rows_of [] = []
rows_of (slot ∷ slots) = row_if slot.0 slot.1 (rows_of slots)

-- the key has a slot
abbrev pub has_slot : SlotList → RowKey → Bool
has_slot slots key = is_some (lookup (is_at (row_order key)) slots)

-- the key has a slot only where it has an item
abbrev pub IsFilled : SlotList → RowKey → Type 0
IsFilled slots key = has_slot slots key ≡ is_some (item_at (rows_of slots) key)

-- each of the slots has an item
abbrev pub AllFilled : SlotList → Type 0
AllFilled slots = AllFound (λ slot. slot.1) slots

-- other keys than this have slots as they had
abbrev pub KeepsOtherSlots : RowKey → SlotList → SlotList → Type 0
KeepsOtherSlots key old new = (other : RowKey) → is_at (row_order key) other ≡ false → has_slot new other ≡ has_slot old other
