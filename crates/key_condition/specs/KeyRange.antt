-- Which keys lie in a range.
use Rattle.std.specs.Prelude.{Bool, true, false, ◌&&◌, ◌||◌, ◌==◌, Option, Some, None}
use Rattle.std.specs.List.{starts_with}
use Rattle.std.specs.Ordering.{is_lt, is_le, is_gt, is_ge, is_eq}
use Rattle.item_keys.specs.Order.{value_order}
use Rattle.item_keys.specs.declared.key.Key.{Key}
use Rattle.item_keys.specs.declared.value.KeyValue.{KeyValue}
use Rattle.item_keys.specs.declared.value.KeyValue.TheVariants.{S, B}
use Rattle.key_condition.specs.declared.key_range.Bound.{Bound}
use Rattle.key_condition.specs.declared.key_range.Bound.TheVariants.{Open, At, Past, BeforePrefixEnd}
use Rattle.key_condition.specs.declared.key_range.KeyRange.{KeyRange}

-- both are strings or both binaries, and the second begins the first
abbrev pub has_front : KeyValue → KeyValue → Bool
has_front (S value) (S front) = starts_with ◌==◌ value front
has_front (B value) (B front) = starts_with ◌==◌ value front
has_front _ _ = false

-- whether a sort key lies on the inner side of a low end
abbrev pub is_from : Bound → Option KeyValue → Bool
is_from Open sort = true
is_from end None = false
is_from (At low) (Some value) = is_ge (value_order value low)
is_from (Past low) (Some value) = is_gt (value_order value low)
is_from (BeforePrefixEnd low) (Some value) = is_ge (value_order value low)

-- whether a sort key lies on the inner side of a high end
abbrev pub is_up_to : Bound → Option KeyValue → Bool
is_up_to Open sort = true
is_up_to end None = false
is_up_to (At high) (Some value) = is_le (value_order value high)
is_up_to (Past high) (Some value) = is_lt (value_order value high)
is_up_to (BeforePrefixEnd front) (Some value) = is_lt (value_order value front) || has_front value front

-- whether the key lies in the range
abbrev pub lies_in : KeyRange → Key → Bool
lies_in range key =
    is_eq (value_order key.partition range.partition) && (is_from range.low key.sort && is_up_to range.high key.sort)
