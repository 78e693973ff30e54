-- The keys of rows, and their order (API Reference: Query, Scan).
use Rattle.std.specs.Prelude.{Option, None, Some}
use Rattle.std.specs.Ordering.{nat_cmp, ordering_then}
use Rattle.std.specs.declared.cmp.Ordering.{Ordering}
use Rattle.item_keys.specs.declared.key.Key.{Key}
use Rattle.item_keys.specs.declared.key.PlacedKey.{PlacedKey}
use Rattle.item_keys.specs.declared.value.KeyValue.{KeyValue}
use Rattle.item_keys.specs.Order.{value_order}
use Rattle.item_keys.specs.Place.{place_of}
use Rattle.row_keys.specs.declared.point.SortPoint.{SortPoint}
use Rattle.row_keys.specs.declared.point.SortPoint.TheVariants.{Least, At}
use Rattle.row_keys.specs.declared.row_key.RowKey.{RowKey}
use Rattle.row_keys.specs.declared.position.Position.{Position}
use Rattle.row_keys.specs.Points.{point_order}

-- a key without a sort key stands before all values
abbrev pub sort_point : Option KeyValue → SortPoint
sort_point None = Least
sort_point (Some value) = At value

-- the key of a row
abbrev pub row_key : Key → RowKey
row_key key = record { place = place_of key.partition; partition = key.partition; sort = sort_point key.sort }

-- the same of a key with its place
abbrev pub placed_row_key : PlacedKey → RowKey
placed_row_key placed = record { place = placed.place; partition = placed.key.partition; sort = sort_point placed.key.sort }

-- the order of a Scan: by place, by the partition key, by the sort key
abbrev pub row_order : RowKey → RowKey → Ordering
row_order a b =
    ordering_then (nat_cmp a.place b.place) (ordering_then (value_order a.partition b.partition) (point_order a.sort b.sort))

-- items of one index key: by the table's partition key and sort key; the place decides nothing
abbrev pub item_order : RowKey → RowKey → Ordering
item_order a b =
    ordering_then (value_order a.partition b.partition) (ordering_then (point_order a.sort b.sort) (nat_cmp a.place b.place))

-- the order of an index: by its own key, and then by the table's
unfoldable pub position_order : Position → Position → Ordering
position_order a b = ordering_then (row_order a.read b.read) (item_order a.item b.item)
