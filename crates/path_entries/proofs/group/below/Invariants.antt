use Rattle.std.proofs.Common.{◌≡◌, ◌++◌, drop}
use Rattle.path_entries.specs.Entries.{entries_of, below, passes}
use Rattle.path_entries.proofs.group.below.Given as goal

abbrev pub invariant-loop-entry : goal.invariant-loop-entry
invariant-loop-entry g l =
    entries_of l.deeper.items ++ below (passes l.key) (entries_of (drop l.entry-index l.entry-items)) ≡ below (passes l.key) (entries_of l.entry-items)
