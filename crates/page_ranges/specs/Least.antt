-- The least of values and keys.
use Rattle.std.specs.Prelude.{ℕ, [], Option, None, Some}
use Rattle.item_keys.specs.declared.value.KeyValue.{KeyValue}
use Rattle.item_keys.specs.declared.value.KeyValue.TheVariants.{S}
use Rattle.row_keys.specs.declared.point.SortPoint.TheVariants.{Least}
use Rattle.row_keys.specs.declared.position.Position.{Position}
use Rattle.row_keys.specs.declared.row_key.RowKey.{RowKey}
use Rattle.row_keys.specs.Rows.{position}

-- no value is below the string of no byte
abbrev pub least_value : KeyValue
least_value = S []

-- no key at this place or behind it is below
abbrev pub least_at : ℕ → RowKey
least_at place = record { place = place; partition = least_value; sort = Least }

-- no position with this key in what is read is below
abbrev pub first_of : Option RowKey → Option Position
first_of None = None
first_of (Some key) = Some (position key (least_at 0))
