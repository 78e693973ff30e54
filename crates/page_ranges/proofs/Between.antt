-- Between the points of its ends lie the sort keys of a range.
use Rattle.std.specs.Prelude.{not, ◌&&◌, ◌||◌}
use Rattle.std.proofs.Common.{◌≡◌, ℤ, Bool, true, false, Option, None, Some, refl, ap, ◌∙◌}
use Rattle.std.specs.Ordering.{ordering_reverse, is_lt, is_le, is_ge, is_gt}
use Rattle.std.specs.declared.cmp.Ordering.{Ordering}
use Rattle.std.specs.declared.cmp.Ordering.TheVariants.{Less, Equal, Greater}
use Rattle.item_keys.specs.declared.value.KeyValue.{KeyValue}
use Rattle.item_keys.specs.declared.value.KeyValue.TheVariants.{S, N, B}
use Rattle.item_keys.specs.Order.{value_order}
use Rattle.item_keys.specs.OrderLaws.{value_total}
use Rattle.row_keys.specs.declared.point.SortPoint.{SortPoint}
use Rattle.row_keys.specs.declared.point.SortPoint.TheVariants.{Least, At, After, Greatest}
use Rattle.row_keys.specs.Points.{point_order}
use Rattle.row_keys.specs.PointLaws.{point_total}
use Rattle.row_keys.specs.Keys.{sort_point}
use Rattle.row_keys.proofs.Ends.{stand_as_values, end_behind_values, end_behind_prefixes, end_behind_fronts}
use Rattle.key_condition.specs.KeyRange.{has_front, is_from, is_up_to}
use Rattle.key_condition.specs.declared.key_range.Bound.{Bound}
use Rattle.key_condition.specs.declared.key_range.Bound.TheVariants as bound
use Rattle.page_ranges.specs.Least.{least_value}
use Rattle.page_ranges.specs.Points.{low_point, high_point, behind_prefix}
use Rattle.page_ranges.proofs.Orders.{value_least}

turned : (o : Ordering) → not (is_le (ordering_reverse o)) ≡ is_lt o
turned Less = refl
turned Equal = refl
turned Greater = refl

turned_le : (o : Ordering) → is_le (ordering_reverse o) ≡ is_ge o
turned_le Less = refl
turned_le Equal = refl
turned_le Greater = refl

le_not_lt : (o : Ordering) → is_le (ordering_reverse o) ≡ not (is_lt o)
le_not_lt Less = refl
le_not_lt Equal = refl
le_not_lt Greater = refl

gt_not_le : (o : Ordering) → not (is_le o) ≡ is_gt o
gt_not_le Less = refl
gt_not_le Equal = refl
gt_not_le Greater = refl

-- a point is not up to another where that is below it
not_up_to : (end at : SortPoint) → not (is_le (point_order end at)) ≡ is_lt (point_order at end)
not_up_to end at = ap (λ o. not (is_le o)) (point_total.antisymm end at) ∙ turned (point_order at end)

or_false : (b : Bool) → b ≡ (b || false)
or_false true = refl
or_false false = refl

no_front : (value : KeyValue) (number : ℤ) → is_lt (value_order value (N number)) ≡ (is_lt (value_order value (N number)) || has_front value (N number))
no_front (S text) number = or_false (is_lt (value_order (S text) (N number)))
no_front (N other) number = or_false (is_lt (value_order (N other) (N number)))
no_front (B bytes) number = or_false (is_lt (value_order (B bytes) (N number)))

prefix_ends : (value front : KeyValue) → is_lt (point_order (At value) (behind_prefix front)) ≡ (is_lt (value_order value front) || has_front value front)
unfolding point_order value_order
prefix_ends (S text) (S front) = end_behind_prefixes text front
prefix_ends (N number) (S front) = refl
prefix_ends (B bytes) (S front) = refl
prefix_ends (S text) (B front) = refl
prefix_ends (N number) (B front) = refl
prefix_ends (B bytes) (B front) = end_behind_fronts bytes front
prefix_ends (S text) (N front) = ap is_lt (stand_as_values (S text) (N front)) ∙ no_front (S text) front
prefix_ends (N number) (N front) = ap is_lt (stand_as_values (N number) (N front)) ∙ no_front (N number) front
prefix_ends (B bytes) (N front) = ap is_lt (stand_as_values (B bytes) (N front)) ∙ no_front (B bytes) front

open_high : (value : KeyValue) → not (is_le (point_order Greatest (At value))) ≡ true
unfolding point_order
open_high value = refl

below_high : (high : Bound) (value : KeyValue) → not (is_le (point_order (high_point high) (At value))) ≡ is_up_to high (Some value)
below_high bound.Open value = open_high value
below_high (bound.At end) value = not_up_to (After end) (At value) ∙ end_behind_values value end
below_high (bound.Past end) value = not_up_to (At end) (At value) ∙ ap is_lt (stand_as_values value end)
below_high (bound.BeforePrefixEnd front) value = not_up_to (behind_prefix front) (At value) ∙ prefix_ends value front

from_value : (end value : KeyValue) → is_le (point_order (At end) (At value)) ≡ is_ge (value_order value end)
from_value end value = ap is_le (stand_as_values end value ∙ value_total.antisymm end value) ∙ turned_le (value_order value end)

behind_value : (end value : KeyValue) → is_le (point_order (After end) (At value)) ≡ is_gt (value_order value end)
behind_value end value =
    ap is_le (point_total.antisymm (After end) (At value)) ∙ le_not_lt (point_order (At value) (After end))
    ∙ ap not (end_behind_values value end) ∙ gt_not_le (value_order value end)

open_low : (value : KeyValue) → is_le (point_order Least (At value)) ≡ true
unfolding point_order
open_low value = refl

least_low : (value : KeyValue) → is_le (point_order (At least_value) (At value)) ≡ true
least_low value = ap is_le (stand_as_values least_value value) ∙ value_least value

above_low : (low high : Bound) (value : KeyValue) → is_le (point_order (low_point low high) (At value)) ≡ is_from low (Some value)
above_low bound.Open bound.Open value = open_low value
above_low bound.Open (bound.At end) value = least_low value
above_low bound.Open (bound.Past end) value = least_low value
above_low bound.Open (bound.BeforePrefixEnd front) value = least_low value
above_low (bound.At end) high value = from_value end value
above_low (bound.Past end) high value = behind_value end value
above_low (bound.BeforePrefixEnd end) high value = from_value end value

-- a key without a sort key lies inside no end
without : (low high : Bound)
    → (is_le (point_order (low_point low high) Least) && not (is_le (point_order (high_point high) Least))) ≡ (is_from low None && is_up_to high None)
unfolding point_order
without bound.Open bound.Open = refl
without bound.Open (bound.At end) = refl
without bound.Open (bound.Past end) = refl
without bound.Open (bound.BeforePrefixEnd front) = refl
without (bound.At low) high = refl
without (bound.Past low) high = refl
without (bound.BeforePrefixEnd low) high = refl

-- between the points of two ends lie the sort keys inside them
pub between_points : (low high : Bound) (sort : Option KeyValue)
    → (is_le (point_order (low_point low high) (sort_point sort)) && not (is_le (point_order (high_point high) (sort_point sort))))
    ≡ (is_from low sort && is_up_to high sort)
between_points low high None = without low high
between_points low high (Some value) = λ i. above_low low high value i && below_high high value i
