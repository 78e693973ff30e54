-- Where an item stands in an index, and what a change of it moves.
use Rattle.std.specs.Prelude.{List, Bool, true, false, if◌then◌else◌, Option, None, Some, option_and_then}
use Rattle.std.specs.List.{list_any}
use Rattle.std.specs.BTreeMap.{is_at}
use Rattle.attr_value.specs.Tree.{Attributes}
use Rattle.table_schema.specs.declared.keys.KeyNames.{KeyNames}
use Rattle.table_schema.specs.declared.schema.Schema.{Schema}
use Rattle.row_keys.specs.declared.position.Position.{Position}
use Rattle.row_keys.specs.declared.row_key.RowKey.{RowKey}
use Rattle.row_keys.specs.Keys.{position_order}
use Rattle.row_keys.specs.Rows.{position_in}
use Rattle.table_rows.specs.declared.moves.Move.{Move}
use Rattle.table_rows.specs.Slots.{SlotList}

-- the place is this one
abbrev pub is_place : Option Position → Position → Bool
is_place None other = false
is_place (Some place) other = is_at (position_order place) other

abbrev pub same_place : Option Position → Option Position → Bool
same_place None None = true
same_place (Some old) (Some new) = is_at (position_order old) new
same_place _ _ = false

-- the move from one place to another; a row that stays is not moved
abbrev pub move_of : Option Position → Option Position → Move
move_of old new = if same_place old new then record { gone = None; come = None } else record { gone = old; come = new }

-- where the item of a key stands in an index, if it is there
abbrev pub spot_of : Schema → KeyNames → RowKey → Option Attributes → Option Position
spot_of schema keys key item = option_and_then (position_in schema keys key) item

-- what a change of the item of a key moves
abbrev pub move_in : Schema → KeyNames → RowKey → Option Attributes → Option Attributes → Move
move_in schema keys key old new = move_of (spot_of schema keys key old) (spot_of schema keys key new)

-- some slot has an item that stands at the place
abbrev pub enters : Schema → KeyNames → SlotList → Position → Bool
enters schema keys slots place = list_any (λ slot. is_place (spot_of schema keys slot.0 slot.1) place) slots

-- some move brings the place
abbrev pub comes : List Move → Position → Bool
comes moves place = list_any (λ m. is_place m.come place) moves

-- some move takes the place out
abbrev pub goes : List Move → Position → Bool
goes moves place = list_any (λ m. is_place m.gone place) moves
