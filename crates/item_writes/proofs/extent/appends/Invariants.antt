use Rattle.std.proofs.Common.{◌≡◌, ◌≤◌, ◌+◌, ◌-◌, ◌^◌, min, max, drop}
use Rattle.attr_value.specs.Sizes.{elements_depth, list_size}
use Rattle.path_entries.specs.Entries.{entries_of}
use Rattle.item_writes.specs.Edits.{appended}
use Rattle.item_writes.specs.NewTree.{seen}
use Rattle.item_writes.proofs.extent.appends.Given as goal

abbrev pub invariant-loop-write : goal.invariant-loop-write
invariant-loop-write l =
    (l.all.bytes ≤ l.limit)
    × (min (l.all.bytes + list_size (appended l.end (seen (entries_of (drop l.write-index l.writes))))) l.limit
    ≡ min (list_size (appended l.end (seen (entries_of l.writes)))) l.limit)
    × (max l.all.levels (min (elements_depth (appended l.end (seen (entries_of (drop l.write-index l.writes))))) (2 ^ 32 - 1))
    ≡ min (elements_depth (appended l.end (seen (entries_of l.writes)))) (2 ^ 32 - 1))
