-- What points between values end.
use Rattle.std.specs.Prelude.{◌≡◌, ℕ, List, ◌==◌, ◌||◌}
use Rattle.std.specs.List.{starts_with}
use Rattle.std.specs.Cmp.Lexicographic.{slice_cmp}
use Rattle.std.specs.Ordering.{nat_cmp, is_lt, is_le}
use Rattle.item_keys.specs.declared.value.KeyValue.{KeyValue}
use Rattle.item_keys.specs.declared.value.KeyValue.TheVariants.{S, B}
use Rattle.item_keys.specs.Order.{value_order}
use Rattle.row_keys.specs.declared.point.SortPoint.TheVariants.{At, After, AfterPrefix}
use Rattle.row_keys.specs.Points.{point_order}

-- points of values stand as the values do
abbrev pub StandAsValues : Type 0
StandAsValues = (value end : KeyValue) → point_order (At value) (At end) ≡ value_order value end

-- before the point behind a value stand the values up to it
abbrev pub EndBehindValues : Type 0
EndBehindValues = (value end : KeyValue) → is_lt (point_order (At value) (After end)) ≡ is_le (value_order value end)

-- before the point behind a prefix stand the strings below it, and those that begin with it
abbrev pub EndBehindPrefixes : Type 0
EndBehindPrefixes =
    (text front : List ℕ)
    → is_lt (point_order (At (S text)) (AfterPrefix (S front))) ≡ (is_lt (slice_cmp nat_cmp text front) || starts_with ◌==◌ text front)

-- the same of binaries
abbrev pub EndBehindFronts : Type 0
EndBehindFronts =
    (bytes front : List ℕ)
    → is_lt (point_order (At (B bytes)) (AfterPrefix (B front))) ≡ (is_lt (slice_cmp nat_cmp bytes front) || starts_with ◌==◌ bytes front)
