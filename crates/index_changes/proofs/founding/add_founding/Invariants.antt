use Rattle.std.proofs.Common.{◌≡◌, ℕ, ◌++◌, Some, drop}
use Rattle.std.specs.List.{flat_map}
use Rattle.index_changes.specs.Founding.{founded_for}
use Rattle.index_changes.proofs.founding.add_founding.Given as goal

abbrev pub invariant-loop-index : goal.invariant-loop-index
invariant-loop-index g l =
    (n : ℕ) → let f = founded_for (g.R.Rules.protocol n) l.old.items l.after l.key (Some l.item) in
    l.changes.items ++ flat_map f (drop l.index-index l.index-items) ≡ l.initial.changes.items ++ flat_map f l.index-items
