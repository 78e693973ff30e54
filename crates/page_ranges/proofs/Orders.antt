-- What no key and no value is below.
use Rattle.std.specs.Prelude.{nat_le}
use Rattle.std.proofs.Common.{◌≡◌, ℕ, true, [], ◌∷◌, refl, ◌∙◌, arith}
use Rattle.std.specs.Ordering.{nat_cmp, ordering_then, is_le}
use Rattle.std.specs.declared.cmp.Ordering.{Ordering}
use Rattle.std.specs.declared.cmp.Ordering.TheVariants.{Less, Equal, Greater}
use Rattle.std.proofs.lemmas.Bool.Decides.{nat_tests}
use Rattle.item_keys.specs.declared.value.KeyValue.{KeyValue}
use Rattle.item_keys.specs.declared.value.KeyValue.TheVariants.{S, N, B}
use Rattle.item_keys.specs.Order.{value_order}
use Rattle.row_keys.specs.declared.point.SortPoint.{SortPoint}
use Rattle.row_keys.specs.declared.point.SortPoint.TheVariants as point
use Rattle.row_keys.specs.declared.position.Position.{Position}
use Rattle.row_keys.specs.declared.row_key.RowKey.{RowKey}
use Rattle.row_keys.specs.Points.{point_order}
use Rattle.row_keys.specs.Keys.{row_order, item_order, position_order}
use Rattle.row_keys.specs.Rows.{position}
use Rattle.page_ranges.specs.Least.{least_value, least_at}

pub nat_cmp-le : (a b : ℕ) → is_le (nat_cmp a b) ≡ nat_le a b
nat_cmp-le a b = grind (arith, nat_tests)

pub then_le : (o p : Ordering) → is_le p ≡ true → is_le (ordering_then o p) ≡ is_le o
then_le Less p e = refl
then_le Equal p e = e
then_le Greater p e = refl

pub value_least : (value : KeyValue) → is_le (value_order least_value value) ≡ true
unfolding value_order
value_least (S []) = refl
value_least (S (byte ∷ bytes)) = refl
value_least (N number) = refl
value_least (B bytes) = refl

point_least : (at : SortPoint) → is_le (point_order point.Least at) ≡ true
unfolding point_order
point_least point.Least = refl
point_least (point.At value) = refl
point_least (point.After value) = refl
point_least (point.AfterPrefix value) = refl
point_least point.Greatest = refl

-- of two keys, the least one at a place is the lower where its place is
pub row_least : (place : ℕ) (key : RowKey) → is_le (row_order (least_at place) key) ≡ nat_le place key.place
row_least place key =
    let sorts = point_least key.sort in
    let values = value_least key.partition in
    then_le (nat_cmp place key.place) (ordering_then (value_order least_value key.partition) (point_order point.Least key.sort))
    (then_le (value_order least_value key.partition) (point_order point.Least key.sort) sorts ∙ values)
    ∙ nat_cmp-le place key.place

item_least : (key : RowKey) → is_le (item_order (least_at 0) key) ≡ true
item_least key =
    let places : is_le (nat_cmp 0 key.place) ≡ true = grind (arith, nat_tests) in
    let sorts = then_le (point_order point.Least key.sort) (nat_cmp 0 key.place) places ∙ point_least key.sort in
    then_le (value_order least_value key.partition) (ordering_then (point_order point.Least key.sort) (nat_cmp 0 key.place)) sorts
    ∙ value_least key.partition

-- a position is at or behind the first one of a key where its key in what is read is
pub position_first : (key : RowKey) (at : Position) → is_le (position_order (position key (least_at 0)) at) ≡ is_le (row_order key at.read)
unfolding position_order
position_first key at = then_le (row_order key at.read) (item_order (least_at 0) at.item) (item_least at.item)
