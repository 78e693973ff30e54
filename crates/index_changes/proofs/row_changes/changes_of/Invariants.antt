use Rattle.std.proofs.Common.{◌≡◌, ℕ, ◌++◌, drop}
use Rattle.std.specs.List.{flat_map}
use Rattle.std.specs.Option.{option_copied}
use Rattle.index_changes.specs.Index.{changes_in}
use Rattle.index_changes.proofs.row_changes.changes_of.Given as goal

abbrev pub invariant-loop-index : goal.invariant-loop-index
invariant-loop-index g l =
    (n : ℕ) → let f = changes_in (g.R.Rules.protocol n) l.catalog l.key (option_copied l.old) (option_copied l.new) in
    l.changes.items ++ flat_map f (drop l.index-index l.index-items) ≡ flat_map f l.index-items
