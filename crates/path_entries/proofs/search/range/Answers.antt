use Rattle.std.proofs.Common.{rules, ◌≡◌, ◌-◌, length, take, drop, arith, sym, subst}
use Rattle.std.proofs.lemmas.Grind.{common_steps}
use Rattle.std.proofs.lemmas.List.Sorted.{IsPartitionPoint-from_clause}
use Rattle.std.specs.Ordering.{is_lt, is_le}
use Rattle.path_entries.specs.Entries.{entry_of, entries_of}
use Rattle.path_entries.specs.Order.{key_order, AreInOrder}
use Rattle.path_entries.proofs.Ranges.{range_is, key_below, key_at_most, partitioned, order_drop}
use Rattle.path_entries.proofs.search.range.Goals as goal

pub returns : goal.returns
returns g c =
    let key = c.args.key in
    let xs = c.args.entries.now in
    let from = c.partition_point-from.result in
    let rest = take (length xs - from) (drop from xs) in
    let count = c.partition_point-count.result in
    let rest_is : rest ≡ drop from xs = grind (arith, common_steps, c.partition_point-from.ensures.bound) in
    let order : AreInOrder (entries_of rest) = subst (λ r. AreInOrder (entries_of r)) (sym rest_is) (order_drop entry_of from xs c.requires) in
    let low = IsPartitionPoint-from_clause (λ e. is_lt (key_order key e.steps.now)) _ _ c.partition_point-from.ensures.partitioned
    (partitioned entry_of (λ s. is_lt (key_order key s)) (key_below key) xs c.requires) (λ a r q k. search rules) in
    let high = IsPartitionPoint-from_clause (λ e. is_le (key_order key e.steps.now)) _ _ c.partition_point-count.ensures.partitioned
    (partitioned entry_of (λ s. is_le (key_order key s)) (key_at_most key) rest order) (λ a r q k. search rules) in
    range_is key xs rest from count rest_is low high
