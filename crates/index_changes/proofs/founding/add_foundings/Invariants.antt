use Rattle.std.proofs.Common.{◌≡◌, ℕ, ◌++◌}
use Rattle.index_changes.specs.Plans.{founding_in}
use Rattle.index_changes.proofs.founding.add_foundings.Given as goal

abbrev pub invariant-loop-key : goal.invariant-loop-key
invariant-loop-key g l =
    (n : ℕ) → l.changes.items ++ founding_in (g.R.Rules.protocol n) l.before l.after l.key-iterator
    ≡ l.initial.changes.items ++ founding_in (g.R.Rules.protocol n) l.before l.after l.items.slots.entries
