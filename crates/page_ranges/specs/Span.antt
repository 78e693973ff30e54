-- Which keys lie in a range.
use Rattle.std.specs.Prelude.{Bool, Option, None, Some}
use Rattle.std.specs.BTreeMap.Range.{range_contains}
use Rattle.std.specs.declared.ops.Bound.{Bound}
use Rattle.std.specs.declared.ops.Bound.TheVariants.{Included, Excluded, Unbounded}
use Rattle.row_keys.specs.declared.position.Position.{Position}
use Rattle.row_keys.specs.declared.row_key.RowKey.{RowKey}
use Rattle.row_keys.specs.Keys.{row_order, position_order}
use Rattle.page_ranges.specs.declared.span.Span.{Span}
use Rattle.page_ranges.specs.declared.positions.PositionSpan.{PositionSpan}

-- from a key on, or open
abbrev pub low_end : {K : Type 0} → Option K → Bound K
low_end None = Unbounded
low_end (Some key) = Included key

-- up to and without a key, or open
abbrev pub high_end : {K : Type 0} → Option K → Bound K
high_end None = Unbounded
high_end (Some key) = Excluded key

-- the key is inside
abbrev pub is_inside : Span → RowKey → Bool
is_inside span key = range_contains row_order (low_end span.low) (high_end span.high) key

-- the position is inside
abbrev pub stands_inside : PositionSpan → Position → Bool
stands_inside span position = range_contains position_order (low_end span.low) (high_end span.high) position
