-- Which keys lie between the ends of a range.
use Rattle.std.specs.Prelude.{not, ◌&&◌, ◌+◌, ◌*◌, ◌^◌, ◌<◌, ◌≤◌, ◌↔◌, nat_le, nat_lt}
use Rattle.std.proofs.Common.{◌≡◌, ℕ, Bool, true, false, Option, None, Some, refl, ap, sym, ◌∙◌, arith, le-leb, lt-ltb}
use Rattle.std.specs.BTreeMap.Range.{is_from_start, is_past_end, range_contains}
use Rattle.std.specs.Cmp.{both_ways}
use Rattle.std.specs.Ordering.{nat_cmp, ordering_then, ordering_reverse, is_le, is_eq}
use Rattle.std.specs.declared.cmp.Ordering.{Ordering}
use Rattle.std.specs.declared.cmp.Ordering.TheVariants.{Less, Equal, Greater}
use Rattle.std.proofs.lemmas.Cmp.{tied_itself, tied_back, nat_cmp_total}
use Rattle.std.proofs.lemmas.Bool.{leb-true}
use Rattle.std.proofs.lemmas.Bool.Decides.{nat_tests}
use Rattle.item_keys.specs.declared.key.Key.{Key}
use Rattle.item_keys.specs.declared.value.KeyValue.{KeyValue}
use Rattle.item_keys.specs.Order.{value_order}
use Rattle.item_keys.specs.OrderLaws.{value_total, value_exact}
use Rattle.item_keys.specs.Place.{place_of}
use Rattle.row_keys.specs.declared.point.SortPoint.{SortPoint}
use Rattle.row_keys.specs.declared.row_key.RowKey.{RowKey}
use Rattle.row_keys.specs.Points.{point_order}
use Rattle.row_keys.specs.declared.position.Position.{Position}
use Rattle.row_keys.specs.Keys.{row_key, sort_point, row_order, position_order}
use Rattle.key_condition.specs.KeyRange.{lies_in, is_from, is_up_to}
use Rattle.key_condition.specs.declared.key_range.KeyRange.{KeyRange}
use Rattle.page_ranges.specs.Points.{low_point, high_point}
use Rattle.page_ranges.specs.Span.{low_end, high_end}
use Rattle.page_ranges.specs.Least.{least_at, first_of}
use Rattle.page_ranges.specs.Segment.{is_at_segment}
use Rattle.page_ranges.proofs.Orders.{row_least, position_first}
use Rattle.page_ranges.proofs.Between.{between_points}

-- a point of the sort keys of one partition key
abbrev pub end_at : KeyValue → SortPoint → RowKey
end_at partition point = record { place = place_of partition; partition = partition; sort = point }

-- from one key on and not from another on
abbrev pub is_between : RowKey → RowKey → RowKey → Bool
is_between low high key = is_le (row_order low key) && not (is_le (row_order high key))

-- keys of another partition key are before both ends or behind both
apart : (o p q r : Ordering) → is_eq p ≡ false → (is_le (ordering_then o (ordering_then p q)) && not (is_le (ordering_then o (ordering_then p r)))) ≡ false
apart Less p q r e = refl
apart Greater p q r e = refl
apart Equal Less q r e = refl
apart Equal Greater q r e = refl
apart Equal Equal q r e = absurd (cc)

-- keys of the partition key
within : (range : KeyRange) (sort : Option KeyValue)
    → is_between (end_at range.partition (low_point range.low range.high)) (end_at range.partition (high_point range.high))
    (row_key (record { partition = range.partition; sort = sort }))
    ≡ (is_from range.low sort && is_up_to range.high sort)
within range sort =
    let places = tied_itself nat_cmp_total (place_of range.partition) in
    let values = tied_itself value_total range.partition in
    (λ i.
    is_le (ordering_then (places i) (ordering_then (values i) (point_order (low_point range.low range.high) (sort_point sort))))
    && not (is_le (ordering_then (places i) (ordering_then (values i) (point_order (high_point range.high) (sort_point sort))))))
    ∙ between_points range.low range.high sort

-- keys of another partition key
without : (range : KeyRange) (key : Key) → is_eq (value_order range.partition key.partition) ≡ false → is_eq (value_order key.partition range.partition) ≡ false
    → is_between (end_at range.partition (low_point range.low range.high)) (end_at range.partition (high_point range.high)) (row_key key) ≡ lies_in range key
without range key differs back =
    apart (nat_cmp (place_of range.partition) (place_of key.partition)) (value_order range.partition key.partition)
    (point_order (low_point range.low range.high) (sort_point key.sort)) (point_order (high_point range.high) (sort_point key.sort)) differs
    ∙ sym (ap (λ b. b && (is_from range.low key.sort && is_up_to range.high key.sort)) back)

-- between its ends lie the keys of a range
pub between_ends : (range : KeyRange) (key : Key)
    → is_between (end_at range.partition (low_point range.low range.high)) (end_at range.partition (high_point range.high)) (row_key key) ≡ lies_in range key
between_ends range key = at (value_order range.partition key.partition) refl
  where
    turned : (o : Ordering) → value_order range.partition key.partition ≡ o → value_order key.partition range.partition ≡ ordering_reverse o
    turned o is = value_total.antisymm key.partition range.partition ∙ ap ordering_reverse is

    at : (o : Ordering) → value_order range.partition key.partition ≡ o
        → is_between (end_at range.partition (low_point range.low range.high)) (end_at range.partition (high_point range.high)) (row_key key) ≡ lies_in range key
    at Less is = without range key (ap is_eq is) (ap is_eq (turned Less is))
    at Greater is = without range key (ap is_eq is) (ap is_eq (turned Greater is))
    at Equal is =
        ap (λ partition. is_between (end_at range.partition (low_point range.low range.high)) (end_at range.partition (high_point range.high))
        (row_key (record { partition = partition; sort = key.sort })))
        (sym (value_exact range.partition key.partition is)) ∙ within range key.sort
        ∙ sym (ap (λ o. is_eq o && (is_from range.low key.sort && is_up_to range.high key.sort)) (tied_back value_total range.partition key.partition is))

-- ---- segments

-- a place is behind the first one of a segment where it is so by the definition
pub starts : (segment total first place : ℕ) → (segment * 2 ^ 64 ≤ place * total) ↔ (first ≤ place) → nat_le first place ≡ nat_le (segment * 2 ^ 64) (place * total)
starts segment total first place is =
    both_ways (nat_le first place) (nat_le (segment * 2 ^ 64) (place * total))
    (λ h. le-leb (segment * 2 ^ 64) (place * total) (is.1 (leb-true first place h)))
    (λ h. le-leb first place (is.0 (leb-true (segment * 2 ^ 64) (place * total) h)))

not_le : (m n : ℕ) → not (nat_le m n) ≡ nat_lt n m
not_le m n = grind (arith, nat_tests)

-- between the first places of a segment and of the next lie its places
pub in_segment : (segment total first next : ℕ) (key : RowKey) → (segment * 2 ^ 64 ≤ key.place * total) ↔ (first ≤ key.place)
    → ((segment + 1) * 2 ^ 64 ≤ key.place * total) ↔ (next ≤ key.place)
    → is_between (least_at first) (least_at next) key ≡ is_at_segment segment total key.place
in_segment segment total first next key low high =
    (λ i. row_least first key i && not (row_least next key i))
    ∙ (λ i. starts segment total first key.place low i && not (starts (segment + 1) total next key.place high i))
    ∙ ap (λ b. nat_le (segment * 2 ^ 64) (key.place * total) && b) (not_le ((segment + 1) * 2 ^ 64) (key.place * total))

-- the last segment
pub in_last : (segment total first : ℕ) (key : RowKey) → (segment * 2 ^ 64 ≤ key.place * total) ↔ (first ≤ key.place)
    → key.place * total < (segment + 1) * 2 ^ 64 → (is_le (row_order (least_at first) key) && true) ≡ is_at_segment segment total key.place
in_last segment total first key low less =
    ap (λ b. b && true) (row_least first key ∙ starts segment total first key.place low)
    ∙ ap (λ b. nat_le (segment * 2 ^ 64) (key.place * total) && b) (sym (lt-ltb (key.place * total) ((segment + 1) * 2 ^ 64) less))

-- no segment
pub in_none : (segment total place : ℕ) → place * total < segment * 2 ^ 64 → false ≡ is_at_segment segment total place
in_none segment total place less =
    let out : nat_le (segment * 2 ^ 64) (place * total) ≡ false = grind (arith, nat_tests) in
    ap (λ b. b && nat_lt (place * total) ((segment + 1) * 2 ^ 64)) (sym out)

never : (b : Bool) → (b && not b) ≡ false
never true = refl
never false = refl

-- from a key on and not from it on
pub nowhere : (low key : RowKey) → is_between low low key ≡ false
nowhere low key = never (is_le (row_order low key))

-- ---- positions

from_first : (low : Option RowKey) (at : Position) → is_from_start position_order (low_end (first_of low)) at ≡ is_from_start row_order (low_end low) at.read
from_first None at = refl
from_first (Some key) at = position_first key at

past_first : (high : Option RowKey) (at : Position) → is_past_end position_order (high_end (first_of high)) at ≡ is_past_end row_order (high_end high) at.read
past_first None at = refl
past_first (Some key) at = position_first key at

-- positions lie between the first ones of two keys where their keys in what is read lie between these
pub first_positions : (low high : Option RowKey) (at : Position)
    → range_contains position_order (low_end (first_of low)) (high_end (first_of high)) at ≡ range_contains row_order (low_end low) (high_end high) at.read
first_positions low high at = λ i. from_first low at i && not (past_first high at i)
