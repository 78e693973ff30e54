-- Items of tables that are kept in a set.
use Rattle.std.specs.Prelude.{List, Bool}
use Rattle.std.specs.List.{list_any}
use Rattle.std.specs.Ordering.{nat_cmp, ordering_then, is_eq}
use Rattle.std.specs.Cmp.Lexicographic.{slice_cmp}
use Rattle.row_keys.specs.Keys.{row_order}
use Rattle.table_model.specs.Transactions.{Target}
use Rattle.transact_reads.specs.declared.targets.Spot.{Spot}

-- the item is among these
abbrev pub holds : List Spot → Target → Bool
holds spots target =
    list_any (λ spot. is_eq (ordering_then (slice_cmp nat_cmp target.name spot.table.now) (row_order target.key spot.key.now))) spots
