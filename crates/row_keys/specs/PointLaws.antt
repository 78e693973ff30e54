-- The order of points is total.
use Rattle.std.specs.Prelude.{pos}
use Rattle.std.specs.Cmp.{IsTotalOrder, nat_cmp_total, int_cmp_total, then_total, on_total}
use Rattle.std.specs.Cmp.Lexicographic.{nat_list_cmp_total}
use Rattle.item_keys.specs.declared.value.KeyValue.TheVariants.{N}
use Rattle.row_keys.specs.Points.{marked, kind, number_in, bytes_in, values_order, rank, named_or, point_order}

values_total : IsTotalOrder values_order
values_total =
    then_total (on_total (λ v. kind v.0) nat_cmp_total)
    (then_total (on_total (λ v. number_in v.0) int_cmp_total) (on_total (λ v. marked (bytes_in v.0) v.1) nat_list_cmp_total))

pub point_total : IsTotalOrder point_order
unfolding point_order
point_total = then_total (on_total rank nat_cmp_total) (on_total (named_or (N (pos 0))) values_total)
