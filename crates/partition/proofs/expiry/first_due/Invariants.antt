use Rattle.std.proofs.Common.{◌≡◌, ◌++◌, ◌≤◌, ℕ, length, take}
use Rattle.std.specs.List.{flat_map}
use Rattle.std.specs.BTreeMap.{IsOrdered}
use Rattle.index_feed.specs.Feed.{Each}
use Rattle.partition.specs.Expiry.{AreAtHome, due_in, due_of_all}
use Rattle.partition.proofs.expiry.first_due.Given as goal

abbrev pub invariant-loop-number : goal.invariant-loop-number
invariant-loop-number g l = record {
  due : (n : ℕ) → AreAtHome (g.R.Rules.protocol n) l.cell.items.tables.entries
      → AreAtHome (g.R.Rules.protocol n) l.number-iterator
      × (take l.limit (l.keys.items ++ flat_map (λ t. due_in (g.R.Rules.protocol n) l.cell.catalog l.moment t.1.slots.entries) l.number-iterator)
      ≡ take l.limit (due_of_all (g.R.Rules.protocol n) l.cell.catalog l.moment l.cell.items.tables));
  few : length l.keys.items ≤ l.limit;
  inner : Each (λ e. IsOrdered g.R.Key.Ord.cmp e.1.slots) l.number-iterator → Each (λ e. IsOrdered g.R.Key.Ord.cmp e.1.slots) l.cell.items.tables.entries;
}
