use Rattle.std.proofs.Common.{◌≡◌, ◌++◌, ◌≤◌, ℕ, length, take}
use Rattle.partition.specs.Expiry.{due_in}
use Rattle.partition.proofs.expiry.add_due.Given as goal

abbrev pub invariant-loop-key : goal.invariant-loop-key
invariant-loop-key g l = record {
  due : (n : ℕ) → take l.limit (l.keys.items ++ due_in (g.R.Rules.protocol n) l.catalog l.moment l.key-iterator)
      ≡ take l.limit (l.initial.keys.items ++ due_in (g.R.Rules.protocol n) l.catalog l.moment l.items.slots.entries);
  few : length l.initial.keys.items ≤ l.limit → length l.keys.items ≤ l.limit;
}
