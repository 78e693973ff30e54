-- The order of positions is total.
use Rattle.std.specs.Cmp.{IsTotalOrder, nat_cmp_total, then_total, on_total}
use Rattle.item_keys.specs.OrderLaws.{value_total}
use Rattle.row_keys.specs.Keys.{row_order, item_order, position_order}
use Rattle.row_keys.specs.PointLaws.{point_total}

pub row_total : IsTotalOrder row_order
row_total =
    then_total (on_total (λ key. key.place) nat_cmp_total)
    (then_total (on_total (λ key. key.partition) value_total) (on_total (λ key. key.sort) point_total))

item_total : IsTotalOrder item_order
item_total =
    then_total (on_total (λ key. key.partition) value_total)
    (then_total (on_total (λ key. key.sort) point_total) (on_total (λ key. key.place) nat_cmp_total))

pub position_total : IsTotalOrder position_order
unfolding position_order
position_total = then_total (on_total (λ position. position.read) row_total) (on_total (λ position. position.item) item_total)
