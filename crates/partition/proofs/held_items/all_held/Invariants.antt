use Rattle.std.proofs.Common.{◌≡◌, ◌++◌}
use Rattle.std.specs.List.{flat_map}
use Rattle.std.specs.BTreeMap.{IsOrdered}
use Rattle.index_feed.specs.Feed.{Each}
use Rattle.partition.specs.Pendings.{held_in_table, held_items}
use Rattle.partition.proofs.held_items.all_held.Given as goal

abbrev pub invariant-loop-number : goal.invariant-loop-number
invariant-loop-number g l = record {
  held : l.held.items ++ flat_map (λ e. held_in_table e.1.slots.entries) l._number-iterator ≡ held_items l.items.tables;
  inner : Each (λ e. IsOrdered g.R.Key.Ord.cmp e.1.slots) l._number-iterator → Each (λ e. IsOrdered g.R.Key.Ord.cmp e.1.slots) l.items.tables.entries;
}
